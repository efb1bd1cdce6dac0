-- What a view shows of the facts of a code point.
-- image_shown shown   the image that is shown: Same where no points are
-- shown_facts r       the facts that r shows, field by field
use Rattle.std.specs.Prelude.{ℕ, List, Option, Some, None}
use Rattle.std.specs.Borrow.{Bor}
use Rattle.ucd_facts.specs.Facts.{Facts, Image, Same, To}
use Rattle.ucd_facts.specs.Sets.{has_flag}
use Rattle.ucd_facts.specs.declared.view.FactsRef.{FactsRef}

abbrev pub image_shown : Option (Bor (List ℕ)) → Image
image_shown None = Same
image_shown (Some points) = To points.now

abbrev pub shown_facts : FactsRef → Facts
shown_facts r = record {
  assigned = r.assigned;
  category = r.category;
  class = r.class;
  kind = r.kind;
  mapping = r.mapping.now;
  simple_upper = r.simple_upper;
  simple_lower = r.simple_lower;
  simple_title = r.simple_title;
  simple_fold = r.simple_fold;
  upper = image_shown r.upper;
  lower = image_shown r.lower;
  title = image_shown r.title;
  fold = image_shown r.fold;
  flag = has_flag r.flags;
  mid_word = r.mid_word;
  excluded = r.excluded;
}
