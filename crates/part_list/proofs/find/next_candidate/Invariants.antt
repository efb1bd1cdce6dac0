use Rattle.std.proofs.Common.{◌≡◌, ◌+◌, ◌-◌, ◌≤◌, length, drop}
use Rattle.std.specs.List.{position_or_len}
use Rattle.part_list.proofs.find.next_candidate.Given as goal

-- none of the entries between passes
abbrev pub invariant-entries : goal.invariant-entries
invariant-entries g l = record {
  within : l.at ≤ length l.entries;
  from : l.fn.from ≤ l.at;
  none : position_or_len (g.S.Seek.passing l.seek) (drop l.fn.from l.entries) + l.fn.from ≡ position_or_len (g.S.Seek.passing l.seek) (drop l.at l.entries) + l.at;
}

abbrev pub decreases-entries : goal.decreases-entries
decreases-entries g l = length l.entries - l.at
