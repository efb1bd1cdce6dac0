use Rattle.std.proofs.Common.{length, ◌-◌}
use Rattle.number_sets.proofs.buckets.Buckets.fill.Given as goal

abbrev pub decreases-keys : goal.decreases-keys
decreases-keys l = length l.sorted - l.at
