use Rattle.std.proofs.Common.{◌≡◌, ◌<◌, length}
use Rattle.part_list.specs.Parts.{before}
use Rattle.part_list.specs.PartValues.{parts_next}
use Rattle.part_list.proofs.search.spot_before.Given as goal

-- the parts from those that are left up to the spot's have no entries
abbrev pub invariant-parts : goal.invariant-parts
invariant-parts g l = record {
  within : l.left < length l.parts;
  same : before (parts_next l.parts) l.left ≡ before (parts_next l.parts) l.initial.left;
}

abbrev pub decreases-parts : goal.decreases-parts
decreases-parts g l = l.left
