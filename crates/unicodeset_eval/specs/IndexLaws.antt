-- What an index says is what the definition says.
-- says_is   of the code points, where the records have the categories of the rows
use Rattle.std.proofs.Common.{◌≡◌, ℕ, ◌<◌, Bool, not, ◌&&◌, ◌==◌, refl, sym, ap, ◌∙◌, arith, inl, inr, nat_lt}
use Rattle.std.proofs.lemmas.Bool.{cases_lt, le-ltb}
use Rattle.ucd_facts.specs.Facts.{Sources, facts}
use Rattle.ucd_points.specs.Limits.{point_count}
use Rattle.ucd_model.specs.CutLemmas.{point_count-is}
use Rattle.ucd_facts.specs.Predicates.{category_place}
use Rattle.ucd_model.specs.Records.{Record}
use Rattle.ucd_facts.specs.declared.category.Category.{Category}
use Rattle.ucd_facts.specs.declared.category.Category.TheVariants.{Cn}
use Rattle.property_aliases.specs.declared.property.Test.{Test}
use Rattle.property_aliases.specs.declared.property.Test.TheVariants as test
use Rattle.unicodeset_eval.specs.Assigned.{AssignedHaveCategories}
use Rattle.unicodeset_eval.specs.Found.{AreRowSets, says}
use Rattle.unicodeset_eval.specs.Tests.{same_truth, test_holds}
use Rattle.unicodeset_eval.specs.declared.row_sets.RowSets.{RowSets}

module _ (R : ℕ → Record) (rows : Sources) (sets : RowSets) (are : AreRowSets sets rows) (assigned : AssignedHaveCategories rows)
    (categories : (c : ℕ) → c < point_count → (R c).category ≡ (facts rows c).category) where
  -- of code points it is enough
  of_points : (p q : Bool) (c : ℕ) → (c < point_count → p ≡ q) → (nat_lt c point_count && p) ≡ (nat_lt c point_count && q)
  of_points p q c same = elim (cases_lt c point_count) [
    | inl lt ↦ ap (λ b. nat_lt c point_count && b) (same lt)
    | inr le ↦ rw (le-ltb c point_count le) refl
  ]

  assigned_is : (c : ℕ) → (nat_lt c point_count && says R sets test.Assigned c) ≡ (nat_lt c point_count && test_holds R rows test.Assigned c)
  assigned_is c = of_points (says R sets test.Assigned c) (test_holds R rows test.Assigned c) c
      (λ lt. ap (λ (k : Category). not (category_place k == category_place Cn)) (categories c lt) ∙ sym (assigned c lt))

  pub says_is : (t : Test) (c : ℕ) → (nat_lt c point_count && says R sets t c) ≡ (nat_lt c point_count && test_holds R rows t c)
  says_is test.Any c = refl
  says_is test.Ascii c = refl
  says_is test.Assigned c = assigned_is c
  says_is (test.Group group) c = refl
  says_is (test.Category category) c = refl
  says_is (test.Script number) c = of_points (says R sets (test.Script number) c) (test_holds R rows (test.Script number) c) c (λ lt. are.scripts number c (omega (arith, lt, point_count-is)))
  says_is (test.Class class) c = refl
  says_is (test.Decomposition kind) c = refl
  says_is (test.WordBreak number) c = of_points (says R sets (test.WordBreak number) c) (test_holds R rows (test.WordBreak number) c) c (λ lt. are.breaks number c (omega (arith, lt, point_count-is)))
  says_is (test.Quick form value) c = refl
  says_is (test.Core core wanted) c = refl
  says_is (test.Exclusion wanted) c = refl
  says_is (test.ChangesCasefold wanted) c = refl
  says_is (test.Listed number wanted) c = ap (λ b. nat_lt c point_count && same_truth wanted b) (are.listed number c)
