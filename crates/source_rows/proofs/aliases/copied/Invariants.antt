use Rattle.std.proofs.Common.{◌≡◌, ◌++◌}
use Rattle.source_rows.proofs.aliases.copied.Given as goal

-- the names that were copied, and behind them those that are left, are all
abbrev pub invariant-names : goal.invariant-names
invariant-names l = l.copy ++ l.name-iterator ≡ l.fn.names
