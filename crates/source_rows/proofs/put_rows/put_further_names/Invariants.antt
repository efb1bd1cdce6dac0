use Rattle.std.proofs.Common.{◌≡◌, ◌++◌, take}
use Rattle.source_rows.specs.Texts.{named}
use Rattle.source_rows.proofs.put_rows.put_further_names.Given as goal

-- what stood there, and the names so far
abbrev pub invariant-loop-name : goal.invariant-loop-name
invariant-loop-name l = l.into ≡ l.fn.into ++ named (take l.name-index l.names)
