use Rattle.std.proofs.Common.{◌≡◌, ℕ, ◌+◌, ◌<◌, List, [], ◌∷◌, ◌++◌, length, map, ap, ◌∙◌, arith, inl, inr}
use Rattle.std.proofs.lemmas.Bool.{cases_lt}
use Rattle.std.proofs.lemmas.List.{length_push}
use Rattle.property_aliases.specs.Kinds.{kind_names, number_at}
use Rattle.property_aliases.specs.NumberMaps.{number_in}
use Rattle.property_aliases.specs.ResolvingLaws.{direct}
use Rattle.property_aliases.specs.declared.number_map.NumberMap.{NumberMap}
use Rattle.property_aliases.proofs.NumbersAt.{number_at_last, number_at_push}
use Rattle.property_aliases.proofs.kinds.places_by_kind.Goals as goal

-- with the places of the names of the next kind at the end
more : (ms : List NumberMap) (m : NumberMap) (n : ℕ) (tables : ℕ → List (List ℕ)) → length ms ≡ n
    → ((k : ℕ) (key : List ℕ) → k < n → number_at ms k key ≡ direct (tables k) key)
    → ((key : List ℕ) → number_in m key ≡ direct (tables n) key)
    → (k : ℕ) (key : List ℕ) → k < n + 1 → number_at (ms ++ m ∷ []) k key ≡ direct (tables k) key
more ms m n tables len first last k key lt = elim (cases_lt k n) [
  | inl below ↦
      let within : k < length ms = omega (arith, len) in
      number_at_push ms m k key within ∙ first k key below
  | inr past ↦
      let at : k ≡ length ms = omega (arith, len) in
      let same : n ≡ k = omega arith in
      ap (λ i. number_at (ms ++ m ∷ []) i key) at ∙ number_at_last ms m key ∙ last key ∙ ap (λ i. direct (tables i) key) same
]

pub kinds-preserved : goal.kinds-preserved
kinds-preserved c =
    let tables = kind_names (map (λ k. k.items) c.args.scripts.now) (map (λ k. k.items) c.args.breaks.now) in
    let names = c.as_slice.ensures ∙ c.in_ok-names.ensures in
    record {
      below = omega (arith, c.kinds-test.true);
      len = ap length c.in_ok-push.ensures.items ∙ length_push c.kinds.kinds.items c.in_ok-places_of_table.field-0 ∙ ap (λ n. n + 1) c.kinds.invariant.len;
      places = λ k key lt. ap (λ ms. number_at ms k key) c.in_ok-push.ensures.items
          ∙ more c.kinds.kinds.items c.in_ok-places_of_table.field-0 c.kinds.kind tables c.kinds.invariant.len c.kinds.invariant.places
          (λ key. c.in_ok-places_of_table.ensures key ∙ ap (λ (ns : List (List ℕ)). direct ns key) names) k key lt;
    }
