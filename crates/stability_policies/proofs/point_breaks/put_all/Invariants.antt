use Rattle.std.proofs.Common.{◌≡◌, ◌-◌, ◌≤◌, ◌++◌, map}
use Rattle.std.specs.List.{range_with_len}
use Rattle.stability_policies.specs.declared.breaks.Break.TheVariants.{At}
use Rattle.stability_policies.proofs.point_breaks.put_all.Given as goal

-- the breaks so far
abbrev pub invariant-points : goal.invariant-points
invariant-points l = record {
  so_far : l.into ≡ l.initial.into ++ map (At l.policy) (range_with_len l.first (l.number - l.first));
  from : l.first ≤ l.number;
  within : l.number - l.first ≤ l.end - l.first;
}

abbrev pub decreases-points : goal.decreases-points
decreases-points l = l.end - l.number
