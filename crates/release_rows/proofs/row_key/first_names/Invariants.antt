use Rattle.std.proofs.Common.{◌≡◌, ◌++◌, take}
use Rattle.release_rows.specs.Names.{first_names}
use Rattle.release_rows.proofs.KeyTexts.{names_behind}
use Rattle.release_rows.proofs.row_key.first_names.Given as goal

-- the names so far, and behind them those that are left, are the first names of the whole
abbrev pub invariant-names : goal.invariant-names
invariant-names l = l.text.items ++ names_behind (take l.left l.names) ≡ first_names l.fn.count l.fn.names

abbrev pub decreases-names : goal.decreases-names
decreases-names l = l.left
