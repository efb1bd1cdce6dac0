use Rattle.std.proofs.Common.{◌≡◌, ◌-◌, length, take}
use Rattle.std.specs.List.{position_or_len}
use Rattle.part_list.specs.Parts.{flat}
use Rattle.part_list.specs.PartValues.{parts_next}
use Rattle.part_list.proofs.search.first_spot.Given as goal

-- no entry of the parts so far passes
abbrev pub invariant-parts : goal.invariant-parts
invariant-parts g l = position_or_len (g.S.Seek.passing l.seek) (flat (take l.slot (parts_next l.parts))) ≡ length (flat (take l.slot (parts_next l.parts)))

abbrev pub decreases-parts : goal.decreases-parts
decreases-parts g l = length l.parts - l.slot
