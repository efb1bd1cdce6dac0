use Rattle.std.proofs.Common.{◌≡◌, ◌≤◌, length, drop, not}
use Rattle.std.specs.List.{suffix_len}
use Rattle.part_list.specs.Parts.{flat}
use Rattle.part_list.specs.PartValues.{parts_next}
use Rattle.part_list.proofs.search.last_spot.Given as goal

-- no entry of the parts behind those that are left passes
abbrev pub invariant-parts : goal.invariant-parts
invariant-parts g l = record {
  within : l.left ≤ length l.parts;
  none : suffix_len (λ x. not (g.S.Seek.passing l.seek x)) (flat (drop l.left (parts_next l.parts))) ≡ length (flat (drop l.left (parts_next l.parts)));
}

abbrev pub decreases-parts : goal.decreases-parts
decreases-parts g l = l.left
