use Rattle.std.proofs.Common.{◌≡◌, ◌+◌, length, sym, ap, ◌∙◌, arith, count_ones, length-append}
use Rattle.unicodeset_eval.proofs.BinaryDigits.{even_ones, odd_ones}
use Rattle.unicodeset_eval.proofs.changes.push_change.Goals as goal

pub carries-preserved : goal.carries-preserved
carries-preserved c = record {
  same = λ x b. c.in_ok-join_last.ensures.same x b ∙ c.carries.invariant.same x b;
  few = λ start.
      let few = c.carries.invariant.few start in
      let ones = odd_ones c.carries.digits (omega (arith, c.carries-test.true)) in
      let fewer = c.in_ok-join_last.ensures.fewer (omega (arith, few.0, ones.0)) in
      (omega (arith, few.0, ones.0, fewer), sym ones.1 ∙ few.1);
}

pub returns-clause-carried : goal.returns-clause-carried
returns-clause-carried c = λ start.
    let pushed : length c.push.new.self.items ≡ count_ones c.args.before + 1 = ap length c.in_ok-push.ensures.items ∙ length-append _ _ ∙ ap (λ n. n + 1) start in
    let few = c.carries.invariant.few pushed in
    few.0 ∙ sym (even_ones c.carries.digits (omega (arith, c.carries-test.false))) ∙ few.1
