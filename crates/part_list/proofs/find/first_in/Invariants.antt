use Rattle.std.proofs.Common.{◌≡◌, ◌+◌, ◌-◌, ◌≤◌, length, drop}
use Rattle.std.specs.List.{position_or_len}
use Rattle.part_list.proofs.find.first_in.Given as goal

-- none of the entries before the place passes
abbrev pub invariant-entries : goal.invariant-entries
invariant-entries g l = record {
  within : l.at ≤ length l.entries;
  so_far : position_or_len (g.S.Seek.passing l.seek) l.entries ≡ l.at + position_or_len (g.S.Seek.passing l.seek) (drop l.at l.entries);
}

abbrev pub decreases-entries : goal.decreases-entries
decreases-entries g l = length l.entries - l.at
