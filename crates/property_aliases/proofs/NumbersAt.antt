-- Numbers in a list of maps.
-- number_at_push        a map at the end: those before it stay
-- number_at_last        the map at the end
-- number_at_set         a map put in the place of another
use Rattle.std.proofs.Common.{◌≡◌, ℕ, zero, suc, ◌<◌, List, [], ◌∷◌, ◌++◌, length, refl, arith, cond, nat_eq, slice_set}
use Rattle.std.proofs.Math.Dec.{eqb-suc-suc, eqb-suc-zero, eqb-zero-suc}
use Rattle.property_aliases.specs.Kinds.{number_at}
use Rattle.property_aliases.specs.NumberMaps.{number_in}
use Rattle.property_aliases.specs.declared.number_map.NumberMap.{NumberMap}

pub number_at_push : (ms : List NumberMap) (m : NumberMap) (k : ℕ) (key : List ℕ) → k < length ms → number_at (ms ++ m ∷ []) k key ≡ number_at ms k key
number_at_push [] m k key lt = absurd (omega arith)
number_at_push (x ∷ xs) m zero key lt = refl
number_at_push (x ∷ xs) m (suc k) key lt = number_at_push xs m k key (omega arith)

pub number_at_last : (ms : List NumberMap) (m : NumberMap) (key : List ℕ) → number_at (ms ++ m ∷ []) (length ms) key ≡ number_in m key
number_at_last [] m key = refl
number_at_last (x ∷ xs) m key = number_at_last xs m key

pub number_at_set : (ms : List NumberMap) (i : ℕ) (m : NumberMap) (k : ℕ) (key : List ℕ) → i < length ms → number_at (slice_set ms i m) k key ≡ cond (nat_eq i k) (number_in m key) (number_at ms k key)
number_at_set [] i m k key lt = absurd (omega arith)
number_at_set (x ∷ xs) zero m zero key lt = refl
number_at_set (x ∷ xs) zero m (suc k) key lt = rw (eqb-zero-suc k) refl
number_at_set (x ∷ xs) (suc i) m zero key lt = rw (eqb-suc-zero i) refl
number_at_set (x ∷ xs) (suc i) m (suc k) key lt = rw (eqb-suc-suc i k) (number_at_set xs i m k key (omega arith))
