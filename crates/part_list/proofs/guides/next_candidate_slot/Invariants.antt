use Rattle.std.proofs.Common.{◌≡◌, ◌*◌, ◌-◌, ◌≤◌, length}
use Rattle.part_list.specs.Guides.{RulesOut, width}
use Rattle.part_list.specs.PartValues.{parts_next}
use Rattle.part_list.proofs.guides.next_candidate_slot.Given as goal

-- the blocks up to this one are ruled out
abbrev pub invariant-blocks-2 : goal.invariant-blocks-2
invariant-blocks-2 g l = record {
  from : l.fn.from ≤ l.slot;
  block : l.slot ≡ l.block * width;
  ruled : RulesOut (g.S.Seek.passing l.seek) (parts_next l.parts) l.fn.from (l.block * width);
}

abbrev pub decreases-blocks-2 : goal.decreases-blocks-2
decreases-blocks-2 g l = length l.guides - l.block
