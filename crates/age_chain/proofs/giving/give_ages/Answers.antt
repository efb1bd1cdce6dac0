use Rattle.std.proofs.Common.{refl, sym, ◌∙◌, arith}
use Rattle.range_table.specs.RunTable.{values_now, values_next}
use Rattle.age_chain.proofs.TableLemmas.{all_given, given_over, none_given}
use Rattle.age_chain.proofs.giving.give_ages.Goals as goal

pub stretches-init : goal.stretches-init
stretches-init c = record {
  now = λ d lt. refl;
  next = none_given c.args.bench.now c.args.age (values_now c.args.ages.now) (values_next c.args.ages.now) c.requires.still;
  within = omega arith;
}

pub stretches-preserved : goal.stretches-preserved
stretches-preserved c = record {
  now = λ d lt. c.in_ok-last.ensures.now d lt ∙ c.stretches.invariant.now d lt;
  next = rw c.number-number.ensures.value
      (given_over c.args.bench.now c.args.age _ (values_now c.stretches.ages) (values_now c.give_age_to_stretch.new.ages) (values_next c.give_age_to_stretch.new.ages) (λ d lt. sym (c.in_ok-last.ensures.now d lt)) c.in_ok-last.ensures.next);
  within = omega (arith, c.number-number.ensures.bound);
}

pub returns-clause-next : goal.returns-clause-next
returns-clause-next c =
    all_given c.args.bench.now c.args.age c.stretches.number (values_now c.args.ages.now) (values_next c.stretches.ages) (omega (arith, c.stretches-test.false))
    (given_over c.args.bench.now c.args.age c.stretches.number (values_now c.stretches.ages) (values_now c.args.ages.now) (values_next c.stretches.ages) c.stretches.invariant.now c.stretches.invariant.next)
