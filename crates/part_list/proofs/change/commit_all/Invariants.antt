use Rattle.std.proofs.Common.{◌≡◌, ◌-◌, ◌≤◌, ◌++◌, length, take, drop, map}
use Rattle.part_list.specs.PartValues.{committed}
use Rattle.part_list.proofs.change.commit_all.Given as goal

-- the parts so far are done
abbrev pub invariant-parts : goal.invariant-parts
invariant-parts g l = record {
  within : l.slot ≤ length l.fn.parts.items;
  so_far : l.parts.items ≡ map committed (take l.slot l.fn.parts.items) ++ drop l.slot l.fn.parts.items;
}

abbrev pub decreases-parts : goal.decreases-parts
decreases-parts g l = length l.parts.items - l.slot
