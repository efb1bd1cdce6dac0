use Rattle.std.proofs.Common.{◌≡◌}
use Rattle.std.specs.Map.{lookup}
use Rattle.bench_editors.specs.RowKeys.{found_in, key_parts, row_parts, same_parts}
use Rattle.bench_editors.proofs.row_revisions.RowRevisions.last_of.Given as goal

-- it is found among the rows that are left exactly where it is found
abbrev pub invariant-rows : goal.invariant-rows
invariant-rows l =
    lookup (λ k. same_parts (row_parts (record { file = l.file; key = l.key })) (key_parts k)) l.row-iterator ≡ found_in l.self (row_parts (record { file = l.file; key = l.key }))
