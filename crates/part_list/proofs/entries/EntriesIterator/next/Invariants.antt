use Rattle.std.proofs.Common.{◌≡◌, ◌++◌, length, map}
use Rattle.part_list.specs.Parts.{flat}
use Rattle.part_list.specs.PartValues.{shown}
use Rattle.part_list.proofs.entries.EntriesIterator.next.Given as goal

-- what is left of the part and of the parts behind it is all that is left
abbrev pub invariant-parts : goal.invariant-parts
invariant-parts g l = l.self-inside.entries.now ++ flat (map (shown l.self-inside.version) l.self-inside.parts.now) ≡ l.fn.self

abbrev pub decreases-parts : goal.decreases-parts
decreases-parts g l = length l.self-inside.parts.now
