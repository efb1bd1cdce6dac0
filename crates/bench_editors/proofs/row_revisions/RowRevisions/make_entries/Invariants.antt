use Rattle.std.proofs.Common.{◌≡◌, IsSome, take, All}
use Rattle.bench_editors.specs.RowKeys.{KeyParts, found_in, last_in, row_parts}
use Rattle.bench_editors.specs.Rows.{row_of}
use Rattle.bench_editors.proofs.row_revisions.RowRevisions.make_entries.Given as goal

abbrev pub invariant-operations : goal.invariant-operations
invariant-operations l = record {
  same : (parts : KeyParts) → last_in l.self parts ≡ last_in l.initial.self parts;
  there : All (λ op. IsSome (found_in l.self (row_parts (row_of op)))) (take l.op-index l.group);
}
