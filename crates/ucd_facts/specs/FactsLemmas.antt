-- The facts of a code point and those of a number past them, and proofs of the laws of facts.
-- facts_inside    the facts of a code point are those that the rows give
-- facts_outside   those of a number past them are those of no row: the law NumbersPastPointsAreUnassigned
-- judged_some     a list that breaks no rule is the list that is there
-- image_is_same, image_is_other, hangul_composes_back   the laws of the same names
use Rattle.std.proofs.Common.{◌≡◌, ℕ, ◌+◌, ◌-◌, ◌*◌, ◌/◌, ◌%◌, ◌<◌, ◌≤◌, Bool, true, false, ◌==◌, nat_lt, List, [], ◌∷◌, refl, ap, arith, inl, inr, ◌⊎◌, if◌then◌else◌, bytes_eq, lt-ltb, le-ltb, eqb-true, Option, None, Some, Ok, Err, cond, length}
use Rattle.std.proofs.lemmas.Slice.Eq.{bytes_eq-Decides}
use Rattle.std.proofs.lemmas.Bool.Decides.{nat_tests}
use Rattle.ucd_facts.specs.declared.form.Bad.TheVariants.{V3}
use Rattle.ucd_facts.specs.Expansion.{judged}
use Rattle.ucd_points.specs.Limits.{point_count}
use Rattle.ucd_facts.specs.Facts.{Sources, facts, given, is_hangul_syllable, hangul_mapping, Same, To}
use Rattle.ucd_facts.specs.FactsLaws.{ImageIsSame, ImageIsOther, IsLV, IsLVT, HangulComposesBack, NumbersPastPointsAreUnassigned}

pub facts_inside : (rows : Sources) (c : ℕ) → c < point_count → facts rows c ≡ given rows c
unfolding facts
facts_inside rows c lt = let inside : nat_lt c point_count ≡ true = lt-ltb c point_count lt in rw inside refl

pub facts_outside : NumbersPastPointsAreUnassigned
unfolding facts
facts_outside rows c le = let outside : nat_lt c point_count ≡ false = le-ltb c point_count le in rw outside refl

-- ---- images

same_by : (t : Bool) (points : List ℕ) → (if t then Same else To points) ≡ Same → t ≡ true
same_by true points e = refl
same_by false points e = cc

other_by : (t : Bool) (points : List ℕ) → ¬ (t ≡ true) → (if t then Same else To points) ≡ To points
other_by true points other = absurd (other refl)
other_by false points other = refl

pub image_is_same : ImageIsSame
image_is_same c points =
    let decides = bytes_eq-Decides points (c ∷ []) in
    (λ e. decides.0 (same_by (bytes_eq points (c ∷ [])) points e), λ e. ap (λ t. if t then Same else To points) (decides.1 e))

pub image_is_other : ImageIsOther
image_is_other c points other = other_by (bytes_eq points (c ∷ [])) points (λ e. other ((bytes_eq-Decides points (c ∷ [])).0 e))

-- ---- Hangul

hangul_bounds : (c : ℕ) → is_hangul_syllable c ≡ true → (0xAC00 ≤ c) × (c ≤ 0xD7A3)
hangul_bounds c is = grind (arith, nat_tests)

-- an index among the syllables is a consonant's, a vowel's and an ending's
without_ending : (i : ℕ) → i < 11172 → i % 28 ≡ 0 → (i / 588 < 19) × (i % 588 / 28 < 21) × (i ≡ (i / 588 * 21 + i % 588 / 28) * 28)
without_ending i lt none = (omega arith, omega arith, omega arith)

module _ (c : ℕ) (from : 0xAC00 ≤ c) (to : c ≤ 0xD7A3) where
  of_consonant_and_vowel : (test : ((c - 0xAC00) % 28 == 0) ≡ true) → (l : ℕ) × (v : ℕ) × (hangul_mapping c ≡ l ∷ v ∷ []) × IsLV l v c
  of_consonant_and_vowel test =
      let parts = without_ending (c - 0xAC00) (omega arith) (eqb-true ((c - 0xAC00) % 28) 0 test) in (
        0x1100 + (c - 0xAC00) / 588,
        0x1161 + (c - 0xAC00) % 588 / 28,
        rw test refl,
        record { consonant_from = omega arith; consonant_below = omega arith; vowel_from = omega arith; vowel_below = omega arith; is = omega arith },
      )

  of_syllable_and_ending : (test : ((c - 0xAC00) % 28 == 0) ≡ false) → (lv : ℕ) × (t : ℕ) × (hangul_mapping c ≡ lv ∷ t ∷ []) × IsLVT lv t c
  of_syllable_and_ending test =
      let some : 0 < (c - 0xAC00) % 28 = grind (arith, nat_tests) in (
        c - (c - 0xAC00) % 28,
        0x11A7 + (c - 0xAC00) % 28,
        rw test refl,
        record { syllable = omega arith; syllable_from = omega arith; ending_from = omega arith; ending_below = omega arith; is = omega arith },
      )

pub hangul_composes_back : HangulComposesBack
hangul_composes_back c is =
    let bounds = hangul_bounds c is in
    let by : (t : Bool) → ((c - 0xAC00) % 28 == 0) ≡ t → ((l : ℕ) × (v : ℕ) × (hangul_mapping c ≡ l ∷ v ∷ []) × IsLV l v c) ⊎ ((lv : ℕ) × (t' : ℕ) × (hangul_mapping c ≡ lv ∷ t' ∷ []) × IsLVT lv t' c) = elim [
      | true ↦ λ e. inl (of_consonant_and_vowel c bounds.0 bounds.1 e)
      | false ↦ λ e. inr (of_syllable_and_ending c bounds.0 bounds.1 e)
    ] in
    by ((c - 0xAC00) % 28 == 0) refl

-- ---- expansions

pub judged_some : (r : Option (List ℕ)) (xs : List ℕ) → judged r ≡ Ok xs → r ≡ Some xs
judged_some None xs e = cc
judged_some (Some ys) xs e = by (nat_lt 64 (length ys)) e
  where
    by : (b : Bool) → cond b (Err V3) (Ok ys) ≡ Ok xs → ◌≡◌ {A = Option (List ℕ)} (Some ys) (Some xs)
    by true e = cc
    by false e = cc
