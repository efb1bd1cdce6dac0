-- Facts that views show.
use Rattle.std.proofs.Common.{◌≡◌}
use Rattle.ucd_facts.specs.Sets.{has_flag}
use Rattle.ucd_facts.specs.Shown.{image_shown, shown_facts}
use Rattle.ucd_facts.specs.declared.property.Flag.{Flag}
use Rattle.ucd_facts.specs.declared.view.FactsRef.{FactsRef}

-- two views that show the same field by field show the same facts
pub shown_alike : (a b : FactsRef) → a.assigned ≡ b.assigned → a.category ≡ b.category → a.class ≡ b.class → a.kind ≡ b.kind → a.mapping.now ≡ b.mapping.now
    → a.simple_upper ≡ b.simple_upper → a.simple_lower ≡ b.simple_lower → a.simple_title ≡ b.simple_title → a.simple_fold ≡ b.simple_fold
    → image_shown a.upper ≡ image_shown b.upper → image_shown a.lower ≡ image_shown b.lower → image_shown a.title ≡ image_shown b.title
    → image_shown a.fold ≡ image_shown b.fold → ((flag : Flag) → has_flag a.flags flag ≡ has_flag b.flags flag) → a.mid_word ≡ b.mid_word → a.excluded ≡ b.excluded
    → shown_facts a ≡ shown_facts b
shown_alike a b assigned category class kind mapping simple_upper simple_lower simple_title simple_fold upper lower title fold flags mid_word excluded = λ i. record {
  assigned = assigned i;
  category = category i;
  class = class i;
  kind = kind i;
  mapping = mapping i;
  simple_upper = simple_upper i;
  simple_lower = simple_lower i;
  simple_title = simple_title i;
  simple_fold = simple_fold i;
  upper = upper i;
  lower = lower i;
  title = title i;
  fold = fold i;
  flag = λ flag. flags flag i;
  mid_word = mid_word i;
  excluded = excluded i;
}
