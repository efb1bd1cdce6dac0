use Rattle.std.proofs.Common.{ℕ, ◌<◌, All}
use Rattle.part_list.specs.Parts.{part_at}
use Rattle.part_list.specs.PartValues.{parts_next}
use Rattle.part_list.specs.Reaches.{IsWithin}
use Rattle.part_list.proofs.guides.joined_reach.Given as goal

-- the entries of the parts so far are within the reach
abbrev pub invariant-parts : goal.invariant-parts
invariant-parts g l = (k : ℕ) → k < l.part-index → All (IsWithin l.reach) (part_at (parts_next l.parts) k)
