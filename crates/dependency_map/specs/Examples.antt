-- Who asks what, worked out by hand: all code points are plain but 3, which asks its own row, that of 1, and the pair of 1 and 2.
use Rattle.std.proofs.Common.{◌≡◌, ℕ, zero, suc, Bool, List, [], ◌∷◌, Option, Some, None, filter, refl}
use Rattle.ucd_facts.specs.declared.query.Query.{Query}
use Rattle.ucd_facts.specs.declared.query.Query.TheVariants.{Row, Pair, Second}
use Rattle.std.specs.List.{range_with_len}
use Rattle.dependency_map.specs.Askers.{asked_by, asks, asks_any}

abbrev kept : ℕ → Option (List Query)
kept (suc (suc (suc zero))) = Some (Row 3 ∷ Row 1 ∷ Pair 1 2 ∷ [])
kept _ = None

abbrev sample : ℕ → List Query
sample c = asked_by c (kept c)

-- of the first six code points
abbrev of_six : (ℕ → Bool) → List ℕ
of_six p = filter p (range_with_len 0 6)

asker_examples : (of_six (asks sample (Row 1)) ≡ 1 ∷ 3 ∷ [])
    × (of_six (asks sample (Row 3)) ≡ 3 ∷ [])
    × (of_six (asks sample (Second 3)) ≡ [])
    × (of_six (asks sample (Second 4)) ≡ 4 ∷ [])
    × (of_six (asks sample (Pair 1 2)) ≡ 3 ∷ [])
    × (of_six (asks sample (Pair 2 1)) ≡ [])
    × (of_six (asks_any sample (Pair 1 2 ∷ Row 5 ∷ Row 1 ∷ [])) ≡ 1 ∷ 3 ∷ 5 ∷ [])
    × (of_six (asks_any sample []) ≡ [])
asker_examples = (refl, refl, refl, refl, refl, refl, refl, refl)
