use Rattle.std.proofs.Common.{◌≡◌, ◌+◌, ◌<◌, length}
use Rattle.part_list.specs.Parts.{before}
use Rattle.part_list.specs.PartValues.{parts_next}
use Rattle.part_list.proofs.search.place_of.Given as goal

-- the entries of the parts that are left, and those counted, are those before the spot
abbrev pub invariant-parts : goal.invariant-parts
invariant-parts g l = record {
  within : l.left < length l.parts;
  stands : l.place + before (parts_next l.parts) l.left ≡ before (parts_next l.parts) l.fn.spot.slot + l.fn.spot.at;
}

abbrev pub decreases-parts : goal.decreases-parts
decreases-parts g l = l.left
