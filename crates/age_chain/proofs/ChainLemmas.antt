-- A chain with one more release.
use Rattle.std.proofs.Common.{◌≡◌, ℕ, suc, ◌+◌, ◌<◌, ◌≤◌, Bool, ◌&&◌, ◌==◌, List, [], ◌∷◌, ◌++◌, length, Option, Some, None, Result, Ok, Err, OnErr, sym, ap, subst, ◌∙◌, arith, inl, inr, length-append, if◌then◌else◌}
use Rattle.std.proofs.lemmas.Bool.{cases_lt, ne_eqb}
use Rattle.range_table.specs.RunTable.{values_now}
use Rattle.range_table.specs.declared.run_table.RunTable.{RunTable}
use Rattle.range_table.specs.Values.{SameValues, point_count-is}
use Rattle.release_rows.specs.Releases.{ReleaseItems}
use Rattle.age_chain.specs.Ages.{StandsFor, age, age_of, ages_of, is_assigned}
use Rattle.age_chain.specs.Giving.{aged}
use Rattle.age_chain.proofs.AgeLemmas.{age_added, age_after, age_past, last_added}
use Rattle.age_chain.proofs.TableLemmas.{aged_is, ages_past, ages_within}

pub none_aged : (values : ℕ → ℕ) → SameValues values (λ _. 0) → (c : ℕ) → ages_of values c ≡ None
none_aged values zeros c = elim (cases_lt c 1114112) [
  | inl lt ↦ ages_within values c lt ∙ ap age_of (zeros c lt)
  | inr le ↦ ages_past values c le
]

-- a number that is not 0 is the age
pub number_aged : (values : ℕ → ℕ) (c v : ℕ) → c < 1114112 → v ≡ values c → (v ≡ 0 → ⊥) → Some v ≡ ages_of values c
number_aged values c v lt is some = sym (ages_within values c lt ∙ ap age_of (sym is) ∙ ap (λ (t : Bool). if t then None else Some v) (ne_eqb v 0 some))

aged_number : (v n m : ℕ) (b : Bool) → n ≡ suc m → age_of (if b && (v == 0) then n else v) ≡ age_after (age_of v) n b
aged_number v n m b e = subst (λ (k : ℕ). age_of (if b && (v == 0) then k else v) ≡ age_after (age_of v) k b) (sym e) (aged_is v m b)

pub stands_longer : (count n : ℕ) (last : Option ReleaseItems) (table table' : RunTable ℕ) (release : ReleaseItems) (releases : List ReleaseItems) → n ≡ count + 1
    → SameValues (values_now table') (aged release n (values_now table)) → StandsFor (record { count = count; last = last; table = table }) releases → StandsFor (record { count = n; last = Some release; table = table' }) (releases ++ release ∷ [])
stands_longer count n last table table' release releases next given stands =
    let values : ℕ → ℕ = values_now table in
    let new : ℕ → ℕ = values_now table' in
    let number : n ≡ length releases + 1 = omega (arith, next, stands.count) in
    let more = length-append releases (release ∷ []) in
    record {
      count = omega (arith, number, more);
      last = sym (last_added releases release);
      ages = λ c. elim (cases_lt c 1114112) [
        | inl lt ↦ ages_within new c lt ∙ ap age_of (given c lt) ∙ aged_number (values c) n count (is_assigned release c) (omega (arith, next))
            ∙ ap (λ (a : Option ℕ). age_after a n (is_assigned release c)) (sym (ages_within values c lt) ∙ stands.ages c)
            ∙ ap (λ (k : ℕ). age_after (age releases c) k (is_assigned release c)) number ∙ sym (age_added releases release c)
        | inr le ↦ ages_past new c le ∙ sym (age_past (releases ++ release ∷ []) c (subst (λ (k : ℕ). k ≤ c) (sym point_count-is) le))
      ];
    }
