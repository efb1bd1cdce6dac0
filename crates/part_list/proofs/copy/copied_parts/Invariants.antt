use Rattle.std.proofs.Common.{◌≡◌, take}
use Rattle.part_list.proofs.copy.copied_parts.Given as goal

-- what was copied is the front of the parts
abbrev pub invariant-parts : goal.invariant-parts
invariant-parts g l = l.copies.items ≡ take l.part-index l.parts
