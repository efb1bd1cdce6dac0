-- One core property more.
use Rattle.std.proofs.Common.{◌≡◌, ◌≢◌, ℕ, ◌+◌, ◌<◌, Bool, true, ◌&&◌, List, [], ◌∷◌, get_or, nat_lt, refl, sym, ap, ◌∙◌, arith, inl, inr}
use Rattle.std.proofs.lemmas.Bool.{cases_order}
use Rattle.std.proofs.lemmas.Bool.Decides.{nat_tests}
use Rattle.ucd_facts.specs.Sets.{has_core, core_place}
use Rattle.ucd_facts.specs.declared.property.Core.{Core}
use Rattle.ucd_facts.specs.declared.property.Core.TheVariants.{Math, Alphabetic, Lowercase, Uppercase, Cased, CaseIgnorable, ChangesWhenLowercased, ChangesWhenUppercased, ChangesWhenTitlecased, ChangesWhenCasefolded, ChangesWhenCasemapped, IdStart, IdContinue, XidStart, XidContinue, DefaultIgnorableCodePoint, GraphemeExtend, GraphemeBase, GraphemeLink}
use Rattle.identifier_closure.specs.CoreSets.{HasBelow}

-- the properties in the order of Core
abbrev cores : List Core
cores = Math ∷ Alphabetic ∷ Lowercase ∷ Uppercase ∷ Cased ∷ CaseIgnorable ∷ ChangesWhenLowercased ∷ ChangesWhenUppercased ∷ ChangesWhenTitlecased ∷ ChangesWhenCasefolded ∷ ChangesWhenCasemapped ∷ IdStart ∷ IdContinue ∷ XidStart ∷ XidContinue ∷ DefaultIgnorableCodePoint ∷ GraphemeExtend ∷ GraphemeBase ∷ GraphemeLink ∷ []

-- each stands at its place
core_at_place : (core : Core) → get_or cores (core_place core) Math ≡ core
core_at_place Math = refl
core_at_place _ = refl

place_below : (core : Core) → core_place core < 19
place_below Math = omega arith
place_below _ = omega arith

-- no two stand at one place
same_place : (a b : Core) → core_place a ≡ core_place b → a ≡ b
same_place a b e = sym (core_at_place a) ∙ ap (λ n. get_or cores n Math) e ∙ core_at_place b

pub one_more : (set new place : ℕ) (p : Core → Bool) (core : Core) → core_place core ≡ place → HasBelow set place p
    → has_core new core ≡ p core → ((other : Core) → core_place other ≢ core_place core → has_core new other ≡ has_core set other)
    → HasBelow new (place + 1) p
one_more set new place p core at below put rest other = elim (cases_order (core_place other) place) [
  | inl e ↦
      let same : other ≡ core = same_place other core (e ∙ sym at) in
      let less : nat_lt (core_place other) (place + 1) ≡ true = grind (arith, nat_tests, e) in
      ap (has_core new) same ∙ put ∙ ap p (sym same) ∙ sym (ap (λ b. b && p other) less)
  | inr (inl lt) ↦
      let less : nat_lt (core_place other) (place + 1) ≡ nat_lt (core_place other) place = grind (arith, nat_tests, lt) in
      rest other (λ e. absurd (omega (arith, lt, e, at))) ∙ below other ∙ sym (ap (λ b. b && p other) less)
  | inr (inr gt) ↦
      let less : nat_lt (core_place other) (place + 1) ≡ nat_lt (core_place other) place = grind (arith, nat_tests, gt) in
      rest other (λ e. absurd (omega (arith, gt, e, at))) ∙ below other ∙ sym (ap (λ b. b && p other) less)
]

pub all_below : (set : ℕ) (p : Core → Bool) → HasBelow set 19 p → (core : Core) → has_core set core ≡ p core
all_below set p below core =
    let lt = place_below core in
    let less : nat_lt (core_place core) 19 ≡ true = grind (arith, nat_tests, lt) in
    below core ∙ ap (λ b. b && p core) less
