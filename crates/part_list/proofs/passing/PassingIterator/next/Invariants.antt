use Rattle.std.proofs.Common.{◌≡◌, ◌++◌, ◌-◌, length, drop, filter}
use Rattle.part_list.specs.Guides.{Covers}
use Rattle.part_list.specs.Parts.{flat}
use Rattle.part_list.specs.PartValues.{parts_next}
use Rattle.part_list.proofs.passing.PassingIterator.next.Given as goal

-- what passes of the part and of the parts behind it is all that is left
abbrev pub invariant-parts : goal.invariant-parts
invariant-parts g l = record {
  left : filter (g.S.Seek.passing l.self-inside.seek.now) (l.self-inside.entries.now ++ flat (drop l.self-inside.slot (parts_next l.self-inside.parts.now))) ≡ l.fn.self;
  covers : Covers l.self-inside.guides.now (parts_next l.self-inside.parts.now);
}

abbrev pub decreases-parts : goal.decreases-parts
decreases-parts g l = length l.self-inside.parts.now - l.self-inside.slot
