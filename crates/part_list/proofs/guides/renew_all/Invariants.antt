use Rattle.std.proofs.Common.{◌≡◌, ◌*◌, ◌-◌, ◌<◌, ◌≤◌, length}
use Rattle.part_list.specs.Guides.{Covers, width}
use Rattle.part_list.specs.PartValues.{parts_next}
use Rattle.part_list.proofs.guides.renew_all.Given as goal

-- the blocks up to this part have their bounds
abbrev pub invariant-blocks-2 : goal.invariant-blocks-2
invariant-blocks-2 g l = record {
  within : l.from ≤ length l.parts;
  block : l.from < length l.parts → l.from ≡ length l.guides.items * width;
  covers : Covers l.guides.items (parts_next l.parts);
}

abbrev pub decreases-blocks-2 : goal.decreases-blocks-2
decreases-blocks-2 g l = length l.parts - l.from
