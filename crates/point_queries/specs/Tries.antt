-- The pairs that are tried while a list is composed, with no more kept of what is composed than its last starter, and the
-- greatest class behind that. The Unicode Standard, section 3.11, D115 and D117.
--
-- The last starter is told by its point.
-- reached_point starter k     the last starter's point, where a point of class k is not blocked from it
-- tried_by reached y          the pair of the point that is reached and y; none where none is
-- with_composite starter q    the composite q in the starter's place
-- replaced starter y k found  the same of the composite that was found; where there is none, the last starter once y stays
-- taken pair starter y k reached   the same of the composite of the point that is reached and y; where none is reached, the last
--                             starter once y stays
-- next_starter class pair starter y   the last starter once y was put behind what is composed
-- tries_from class pair starter rest   the pairs that are tried while the points of rest are put behind composed ones with that
--                             last starter
use Rattle.std.specs.Prelude.{ℕ, List, [], ◌∷◌, ◌++◌, Option, Some, None, if◌then◌else◌}
use Rattle.ucd_facts.specs.declared.query.Query.{Query}
use Rattle.ucd_facts.specs.declared.query.Query.TheVariants.{Pair}
use Rattle.normalisation.specs.SoFar.{passes, starter_behind}
use Rattle.normalisation.specs.declared.starter.Starter.{Starter}

abbrev pub reached_point : Option (Starter ℕ) → ℕ → Option ℕ
reached_point (Some starter) k = if passes starter.highest k then Some starter.which else None
reached_point None k = None

abbrev pub tried_by : Option ℕ → ℕ → List Query
tried_by (Some point) y = Pair point y ∷ []
tried_by None y = []

abbrev pub with_composite : Option (Starter ℕ) → ℕ → Option (Starter ℕ)
with_composite (Some starter) q = Some (record { which = q; highest = starter.highest })
with_composite None q = None

abbrev pub replaced : Option (Starter ℕ) → ℕ → ℕ → Option ℕ → Option (Starter ℕ)
replaced starter y k (Some q) = with_composite starter q
replaced starter y k None = starter_behind y starter k

abbrev pub taken : (ℕ → ℕ → Option ℕ) → Option (Starter ℕ) → ℕ → ℕ → Option ℕ → Option (Starter ℕ)
taken pair starter y k (Some point) = replaced starter y k (pair point y)
taken pair starter y k None = starter_behind y starter k

abbrev pub next_starter : (ℕ → ℕ) → (ℕ → ℕ → Option ℕ) → Option (Starter ℕ) → ℕ → Option (Starter ℕ)
next_starter class pair starter y = taken pair starter y (class y) (reached_point starter (class y))

abbrev pub tries_from : (ℕ → ℕ) → (ℕ → ℕ → Option ℕ) → Option (Starter ℕ) → List ℕ → List Query
tries_from class pair starter [] = []
tries_from class pair starter (y ∷ rest) = tried_by (reached_point starter (class y)) y ++ tries_from class pair (next_starter class pair starter y) rest
