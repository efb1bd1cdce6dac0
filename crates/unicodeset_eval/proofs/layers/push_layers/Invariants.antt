use Rattle.std.proofs.Common.{◌≡◌, ◌++◌, drop, map}
use Rattle.unicodeset_eval.specs.LayeredRows.{layer_of}
use Rattle.unicodeset_eval.proofs.layers.push_layers.Given as goal

-- the layers so far, and those of the rows that are left
abbrev pub invariant-rows : goal.invariant-rows
invariant-rows l = l.layers.items ++ map layer_of (drop l.row-index l.rows) ≡ l.initial.layers.items ++ map layer_of l.rows
