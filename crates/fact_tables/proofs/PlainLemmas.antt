-- Where nothing is kept of mappings, a code point has none.
use Rattle.std.proofs.Common.{◌≡◌, ℕ, ◌<◌, ◌≤◌, true, false, List, [], ◌∷◌, Option, Some, None, refl, ap, subst, sym, ◌∙◌, ◌&&◌, arith}
use Rattle.std.specs.Option.{IsSome}
use Rattle.std.specs.Ordering.{nat_cmp, is_gt}
use Rattle.std.proofs.lemmas.Slice.Eq.{bytes_eq-Decides}
use Rattle.std.proofs.lemmas.Map.Keys.{le_from_not_gt}
use Rattle.std.proofs.lemmas.Bool.Decides.{nat_tests}
use Rattle.std.specs.BTreeMap.{BTreeMap, get}
use Rattle.std.specs.BTreeMap.Range.{IsLeBy}
use Rattle.ucd_facts.specs.Facts.{image}
use Rattle.ucd_facts.specs.Uniform.{IsPlain}
use Rattle.ucd_facts.specs.Unmapped.{is_same, is_unchanged_by_casing}
use Rattle.ucd_facts.specs.declared.image.Image.{Image}
use Rattle.ucd_facts.specs.declared.image.Image.TheVariants.{Same}
use Rattle.fact_tables.specs.KeptFacts.{kept_at, all_kept}
use Rattle.fact_tables.specs.Rest.{RestOf, bare_rest, no_rest}
use Rattle.fact_tables.specs.KeptFactsLemmas.{kept_point}

pub not_gt : (a b : ℕ) → a ≤ b → is_gt (nat_cmp a b) ≡ false
not_gt a b le = grind (arith, nat_tests)

none_is : {V : Type 0} (o : Option V) → (IsSome o → ⊥) → o ≡ None
none_is None h = refl
none_is (Some x) h = absurd (h refl)

-- before the least of the keys from some point on, there is none
pub absent_before : {V : Type 0} (map : BTreeMap ℕ V) (next d : ℕ) → d < next → (IsSome (get nat_cmp map d) → IsLeBy nat_cmp next d) → get nat_cmp map d ≡ None
absent_before map next d lt least = none_is (get nat_cmp map d) (λ some. omega (arith, le_from_not_gt next d (least some)))

-- the point alone is no image
pub itself : (c : ℕ) → image c (c ∷ []) ≡ Same
itself c = rw ((bytes_eq-Decides (c ∷ []) (c ∷ [])).1 refl) refl

none_plain : (c word : ℕ) → IsPlain c (kept_at c word no_rest)
none_plain c word = record {
  mapping = refl;
  simple_upper = refl;
  simple_lower = refl;
  simple_title = refl;
  simple_fold = refl;
  upper = itself c;
  lower = itself c;
  title = itself c;
  fold = itself c;
}

pub unmapped_plain : (words : ℕ → ℕ) (rests : ℕ → RestOf) (c : ℕ) → c < 1114112 → rests c ≡ no_rest → IsPlain c (all_kept words rests c)
unmapped_plain words rests c inside none =
    subst (IsPlain c) (sym (kept_point words rests c inside ∙ ap (kept_at c (words c)) none)) (none_plain c (words c))

-- a code point that has no more than a decomposition mapping is its own image
four_same : (a b d e : Image) → a ≡ Same → b ≡ Same → d ≡ Same → e ≡ Same → (is_same a && (is_same b && (is_same d && is_same e))) ≡ true
four_same a b d e p q r t = rw (p, q, r, t) refl

bare_is_unmapped : (c word : ℕ) (m : List ℕ) → is_unchanged_by_casing (kept_at c word (bare_rest m)) ≡ true
bare_is_unmapped c word m = four_same _ _ _ _ (itself c) (itself c) (itself c) (itself c)

pub bare_unmapped : (words : ℕ → ℕ) (rests : ℕ → RestOf) (c : ℕ) (m : List ℕ) → c < 1114112 → rests c ≡ bare_rest m → is_unchanged_by_casing (all_kept words rests c) ≡ true
bare_unmapped words rests c m inside bare =
    ap is_unchanged_by_casing (kept_point words rests c inside ∙ ap (kept_at c (words c)) bare) ∙ bare_is_unmapped c (words c) m
