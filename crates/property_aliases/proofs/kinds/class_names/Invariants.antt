use Rattle.std.proofs.Common.{◌≡◌, ◌-◌, ◌≤◌, map, decimal}
use Rattle.std.specs.List.{range_with_len}
use Rattle.property_aliases.proofs.kinds.class_names.Given as goal

abbrev pub invariant-numbers : goal.invariant-numbers
invariant-numbers l = record {
  below : l.number ≤ 255;
  names : l.names ≡ map decimal (range_with_len 0 l.number);
}

abbrev pub decreases-numbers : goal.decreases-numbers
decreases-numbers l = 255 - l.number
