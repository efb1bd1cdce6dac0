use Rattle.std.proofs.Common.{◌-◌, ◌≤◌}
use Rattle.range_table.specs.RunTable.{values_now, values_next}
use Rattle.range_table.specs.Values.{SameValues}
use Rattle.age_chain.specs.Giving.{aged_before}
use Rattle.age_chain.proofs.giving.give_ages.Given as goal

-- the ages now stay, and what is next is given to the code points so far
abbrev pub invariant-stretches : goal.invariant-stretches
invariant-stretches l = record {
  now : SameValues (values_now l.ages) (values_now l.initial.ages);
  next : SameValues (values_next l.ages) (aged_before l.bench l.age l.number (values_now l.ages));
  within : l.number ≤ 1114112;
}

abbrev pub decreases-stretches : goal.decreases-stretches
decreases-stretches l = 1114112 - l.number
