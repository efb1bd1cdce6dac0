use Rattle.std.proofs.Common.{◌≡◌, map, take}
use Rattle.bench_editors.specs.RowKeys.{key_parts, row_parts}
use Rattle.bench_editors.specs.Rows.{row_of}
use Rattle.bench_editors.proofs.row_key.keys_of_ops.Given as goal

abbrev pub invariant-operations : goal.invariant-operations
invariant-operations l = map key_parts l.keys.items ≡ map (λ op. row_parts (row_of op)) (take l.op-index l.group)
