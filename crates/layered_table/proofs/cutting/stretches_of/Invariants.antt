use Rattle.std.proofs.Common.{◌≡◌, ℕ, ◌-◌, ◌<◌, ◌≤◌, ◌&&◌, nat_eq, nat_lt}
use Rattle.std.specs.List.{list_any}
use Rattle.layered_table.specs.Layers.{puts}
use Rattle.layered_table.proofs.cutting.stretches_of.Given as goal

-- the pieces cover the code points below `at`
abbrev pub invariant-stretches : goal.invariant-stretches
invariant-stretches g l = record {
  within : l.at ≤ 1114112;
  words : (word c : ℕ) → c < 1114112 → list_any (puts word c) l.pieces.items ≡ (nat_lt c l.at && nat_eq (g.T.Table.now l.table c) word);
}

abbrev pub decreases-stretches : goal.decreases-stretches
decreases-stretches g l = 1114112 - l.at
