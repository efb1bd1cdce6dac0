-- The counter, and how many code points there are.
use Rattle.std.proofs.Common.{◌≡◌, ℕ, zero, suc, ◌+◌, ◌-◌, ◌<◌, ◌≤◌, ◌==◌, true, ◌||◌, List, [], ◌∷◌, length, get_or, Ok, Err, Result, ap, subst, arith, inl, inr}
use Rattle.std.specs.List.Sorted.{IsStrictlyIncreasing}
use Rattle.std.proofs.lemmas.Bool.{cases_lt, or_right}
use Rattle.std.proofs.lemmas.Bool.Decides.{nat_tests}
use Rattle.ucd_facts.specs.Facts.{Facts}
use Rattle.ucd_points.specs.Limits.{point_count}
use Rattle.ucd_model.specs.Sameness.{is_in}
use Rattle.query_laws.specs.Turns.{AreDependants}
use Rattle.record_turns.specs.Turned.{CountsWithin}
use Rattle.release_rows.specs.FileItems.{FileItem}
use Rattle.edit_session.specs.Groups.{CountsAs, files_facts}
use Rattle.edit_session.specs.declared.apply_stop.Refused.{Refused}

abbrev Files : Type 0
Files = List (List FileItem)

-- ---- lists that rise

rises_from : (xs : List ℕ) → IsStrictlyIncreasing xs → (k : ℕ) → k < length xs → k ≤ get_or xs k 0
rises_from xs rising zero lt = omega arith
rises_from xs rising (suc k) lt =
    let before = rises_from xs rising k (omega (arith, lt)) in
    let step = rising k (omega (arith, lt)) in
    let next : k + 1 ≡ suc k = omega arith in
    subst (λ j. suc k ≤ get_or xs j 0) next (omega (arith, before, step))

in_at : (xs : List ℕ) (k : ℕ) → k < length xs → is_in xs (get_or xs k 0) ≡ true
in_at [] k lt = absurd (omega (arith, lt))
in_at (x ∷ xs) zero lt = let here : (x == x) ≡ true = grind (arith, nat_tests) in ap (λ b. b || is_in xs x) here
in_at (x ∷ xs) (suc k) lt = or_right (x == get_or xs k 0) (is_in xs (get_or xs k 0)) (in_at xs k (omega (arith, lt)))

pub few_below : (xs : List ℕ) (high : ℕ) → IsStrictlyIncreasing xs → ((c : ℕ) → is_in xs c ≡ true → c < high) → length xs ≤ high
few_below xs high rising below =
    elim (cases_lt 0 (length xs)) [
      | inl some ↦
          let last : length xs - 1 < length xs = omega (arith, some) in
          let from = rises_from xs rising (length xs - 1) last in
          let to = below (get_or xs (length xs - 1) 0) (in_at xs (length xs - 1) last) in
          omega (arith, from, to, some)
      | inr none ↦ omega (arith, none)
    ]

-- ---- the counter

pub counts_no_more : (F G : ℕ → Facts) (old new : ℕ) → CountsWithin F G old new → new ≤ old + point_count
counts_no_more F G old new h =
    let points = h.1.0 in
    let all : AreDependants F G points = h.1.1 in
    let few : length points ≤ point_count = few_below points point_count all.rising all.inside in
    omega (arith, h.2, h.1.2, few)

pub counts_within : (after : Result Files Refused) (F : ℕ → Facts) (old new : ℕ) → CountsAs after F old new → new ≤ old + point_count
counts_within (Ok files) F old new h = counts_no_more F (files_facts files) old new h
counts_within (Err refused) F old new h = omega (arith, h)
