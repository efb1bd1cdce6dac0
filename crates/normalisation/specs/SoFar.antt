-- What the pass of composition keeps of the list that is composed so far. The Unicode Standard, section 3.11, D115 and D117.
--
-- A starter is told by its place; where no more than the pairs that are tried are asked, by its code point.
-- passes highest k                 the class k is greater than the greatest class behind the starter, where anything stands
--                                  there
-- highest_with highest k           the greatest class, once a point of class k stands there too
-- raised starter k                 the last starter, once a point of class k stands behind it; None where there is none
-- starter_behind which starter k   the last starter, once a point of class k stands behind the points so far; of class 0 it is
--                                  that point, which `which` tells
-- placed_at at q                   the composite q, to be put into this place; None where there is no composite
-- joined pair xs starter y k       the composite of the starter and the point y of class k, and the starter's place, where y
--                                  passes and there is one; else None
-- with_joined xs y join            the composite put into its place; without one y at the end
-- Describes class cut starter      the kept starter is that of the cut at the last starter: its place, and the points that what
--                                  stands behind it does not block
use Rattle.std.specs.Prelude.{◌≡◌, ℕ, max, Bool, true, List, [], ◌∷◌, ◌++◌, length, nat_lt, ◌==◌, Option, Some, None, if◌then◌else◌, slice_index, slice_set, ⊤}
use Rattle.ucd_model.specs.Composition.{Split, is_open}
use Rattle.normalisation.specs.declared.starter.Starter.{Starter}
use Rattle.normalisation.specs.declared.composition.Join.{Join}

abbrev pub passes : Option ℕ → ℕ → Bool
passes (Some highest) k = nat_lt highest k
passes None k = true

abbrev pub highest_with : Option ℕ → ℕ → ℕ
highest_with (Some highest) k = max highest k
highest_with None k = k

abbrev pub raised : {S : Type 0} → Option (Starter S) → ℕ → Option (Starter S)
raised (Some starter) k = Some (record { which = starter.which; highest = Some (highest_with starter.highest k) })
raised None k = None

abbrev pub starter_behind : {S : Type 0} → S → Option (Starter S) → ℕ → Option (Starter S)
starter_behind which starter k = if k == 0 then Some (record { which = which; highest = None }) else raised starter k

abbrev pub placed_at : ℕ → Option ℕ → Option Join
placed_at at (Some q) = Some (record { at = at; point = q })
placed_at at None = None

abbrev pub joined : (ℕ → ℕ → Option ℕ) → List ℕ → Option (Starter ℕ) → ℕ → ℕ → Option Join
joined pair xs (Some starter) y k = if passes starter.highest k then placed_at starter.which (pair (slice_index xs starter.which) y) else None
joined pair xs None y k = None

abbrev pub with_joined : List ℕ → ℕ → Option Join → List ℕ
with_joined xs y (Some join) = slice_set xs join.at join.point
with_joined xs y None = xs ++ y ∷ []

abbrev pub Describes : (ℕ → ℕ) → Option Split → Option (Starter ℕ) → Type 0
Describes class (Some cut) (Some starter) = (starter.which ≡ length cut.before) × ((y : ℕ) → is_open class y cut.after ≡ passes starter.highest (class y))
Describes class None None = ⊤
Describes class _ _ = ⊥
