-- What counts of names.
-- loose_again    all counts of what counts of a name
use Rattle.std.proofs.Common.{◌≡◌, ℕ, Bool, true, false, if◌then◌else◌, List, [], ◌∷◌, map, refl, arith, filter}
use Rattle.std.proofs.lemmas.Bool.Decides.{nat_tests}
use Rattle.property_aliases.specs.Loose.{is_kept, loose, to_lower}

same_kept : (b : ℕ) → is_kept (to_lower b) ≡ is_kept b
same_kept b = grind (arith, nat_tests)

same_lower : (b : ℕ) → to_lower (to_lower b) ≡ to_lower b
same_lower b = grind (arith, nat_tests)

pub loose_again : (name : List ℕ) → loose (loose name) ≡ loose name
loose_again [] = refl
loose_again (b ∷ bs) = go (is_kept b) refl (loose_again bs)
  where
    kept_by : Bool → List ℕ
    kept_by kept = map to_lower (if kept then b ∷ filter is_kept bs else filter is_kept bs)

    go : (kept : Bool) → is_kept b ≡ kept → loose (loose bs) ≡ loose bs → loose (kept_by kept) ≡ kept_by kept
    go true is rest = rw (same_kept b, is, same_lower b, rest) refl
    go false is rest = rest
