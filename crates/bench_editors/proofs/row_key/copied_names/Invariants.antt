use Rattle.std.proofs.Common.{◌≡◌, map, take}
use Rattle.bench_editors.proofs.row_key.copied_names.Given as goal

abbrev pub invariant-names : goal.invariant-names
invariant-names l = map (λ name. name.items) l.copy.items ≡ take l.name-index l.names
