use Rattle.std.proofs.Common.{◌-◌, ◌≤◌}
use Rattle.fact_tables.proofs.preparing.uneven_blocks.Given as goal

abbrev pub invariant-blocks-2 : goal.invariant-blocks-2
invariant-blocks-2 g l = l.blocks ≤ l.at

abbrev pub decreases-blocks-2 : goal.decreases-blocks-2
decreases-blocks-2 g l = 1114112 - l.at
