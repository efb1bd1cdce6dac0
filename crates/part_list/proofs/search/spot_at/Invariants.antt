use Rattle.std.proofs.Common.{◌≡◌, ◌+◌, ◌-◌, ◌≤◌, length}
use Rattle.part_list.specs.Parts.{before}
use Rattle.part_list.specs.PartValues.{parts_next}
use Rattle.part_list.proofs.search.spot_at.Given as goal

-- the place is that many entries behind those of the parts so far
abbrev pub invariant-parts : goal.invariant-parts
invariant-parts g l = record {
  within : l.slot ≤ length l.parts;
  stands : before (parts_next l.parts) l.slot + l.at ≡ l.fn.place;
}

abbrev pub decreases-parts : goal.decreases-parts
decreases-parts g l = length l.parts - l.slot
