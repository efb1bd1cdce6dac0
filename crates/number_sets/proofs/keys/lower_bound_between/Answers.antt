use Rattle.std.proofs.Common.{ℕ, ◌+◌, ◌-◌, ◌/◌, arith}
use Rattle.number_sets.proofs.KeyLemmas.{behind_all, before_all}
use Rattle.number_sets.proofs.keys.lower_bound_between.Goals as goal

pub halves-preserved-then-sorted-middle : goal.halves-preserved-then-sorted-middle
halves-preserved-then-sorted-middle c =
    let some = c.halves-test.true in
    let within = c.halves.invariant.within in
    let middle : ℕ = c.halves.low + (c.halves.high - c.halves.low) / 2 in
    record {
      ordered = omega arith;
      within = within;
      below = behind_all c.args.sorted.now c.args.start middle c.requires.ascends (omega arith) c.if-sorted-middle.true;
      above = c.halves.invariant.above;
    }

pub halves-preserved : goal.halves-preserved
halves-preserved c =
    let some = c.halves-test.true in
    let within = c.halves.invariant.within in
    let middle : ℕ = c.halves.low + (c.halves.high - c.halves.low) / 2 in
    record {
      ordered = omega arith;
      within = omega arith;
      below = c.halves.invariant.below;
      above = before_all c.args.sorted.now c.args.start middle c.requires.ascends c.if-sorted-middle.false;
    }

pub returns : goal.returns
returns c = let ordered = c.halves.invariant.ordered in let done = c.halves-test.false in record {
  ordered = omega arith;
  within = let within = c.halves.invariant.within in omega arith;
  below = c.halves.invariant.below;
  above = λ i d from inside. c.halves.invariant.above i d (omega arith) inside;
}
