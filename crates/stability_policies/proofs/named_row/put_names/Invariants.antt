use Rattle.std.proofs.Common.{◌≡◌, ◌++◌, take}
use Rattle.stability_policies.specs.NamedRows.{named}
use Rattle.stability_policies.proofs.named_row.put_names.Given as goal

-- the names of the rows so far
abbrev pub invariant-rows : goal.invariant-rows
invariant-rows l = l.into.items ≡ l.initial.into.items ++ named (take l.row-index l.rows)
