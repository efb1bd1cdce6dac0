use Rattle.std.proofs.Common.{◌≡◌, ◌++◌, map, take}
use Rattle.stability_policies.specs.BrokenStretches.{points_of}
use Rattle.stability_policies.specs.declared.breaks.Break.TheVariants.{At}
use Rattle.stability_policies.proofs.point_breaks.put_points.Given as goal

-- the breaks by the stretches so far
abbrev pub invariant-stretches : goal.invariant-stretches
invariant-stretches l = l.into ≡ l.initial.into ++ map (At l.policy) (points_of l.policy (take l.stretch-index l.stretches))
