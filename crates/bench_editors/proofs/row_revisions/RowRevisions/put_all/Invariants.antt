use Rattle.std.proofs.Common.{◌≡◌, IsSome, take, if◌then◌else◌}
use Rattle.std.specs.List.{list_any}
use Rattle.bench_editors.specs.RowKeys.{KeyParts, found_in, key_parts, last_in, same_parts}
use Rattle.bench_editors.proofs.row_revisions.RowRevisions.put_all.Given as goal

abbrev pub invariant-keys : goal.invariant-keys
invariant-keys l = record {
  put : (parts : KeyParts) → last_in l.self parts ≡ (if list_any (λ key. same_parts parts (key_parts key)) (take l.key-index l.keys) then l.revision else last_in l.initial.self parts);
  there : (parts : KeyParts) → IsSome (found_in l.initial.self parts) → IsSome (found_in l.self parts);
}
