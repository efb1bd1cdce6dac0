use Rattle.std.proofs.Common.{◌≡◌, ℕ, take}
use Rattle.number_sets.specs.Keys.{is_in}
use Rattle.norm_conformance.specs.Misses.{is_listed}
use Rattle.norm_conformance.proofs.listed.listed_points.Given as goal

-- the code points of the cases so far
abbrev pub invariant-cases : goal.invariant-cases
invariant-cases l = (c : ℕ) → is_in l.numbers.items c ≡ is_listed (take l.case-index l.cases) c
