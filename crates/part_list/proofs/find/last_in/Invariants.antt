use Rattle.std.proofs.Common.{◌≡◌, ◌+◌, ◌≤◌, length, take, not}
use Rattle.std.specs.List.{suffix_len}
use Rattle.part_list.proofs.find.last_in.Given as goal

-- none of the entries behind those that are left passes
abbrev pub invariant-entries : goal.invariant-entries
invariant-entries g l = record {
  within : l.left ≤ length l.entries;
  so_far : l.left + suffix_len (λ x. not (g.S.Seek.passing l.seek x)) l.entries ≡ length l.entries + suffix_len (λ x. not (g.S.Seek.passing l.seek x)) (take l.left l.entries);
}

abbrev pub decreases-entries : goal.decreases-entries
decreases-entries g l = l.left
