use Rattle.std.proofs.Common.{◌++◌, List, ap, subst, sym, refl, ◌∙◌, nat_lt}
use Rattle.run_endings.specs.Planning.{HaveLines}
use Rattle.run_endings.specs.PutProofs.{puts_then}
use Rattle.run_endings.specs.Writing.{files_of}
use Rattle.run_endings.specs.declared.output.Output.{Output}
use Rattle.ucdshop_more_core.specs.Run.{ages_ending}
use Rattle.ucdshop_more_core.proofs.outputs.ages_plan.Goals as goal

pub returns : goal.returns
returns c = λ releases follows.
    let puts = puts_then _ _ _ _ _ (c.in_ok-put_ages.ensures releases follows) (c.in_ok-put_steps.ensures releases follows) in
    record {
      files = puts.put ∙ ap (λ (outputs : List Output). files_of outputs ++ (ages_ending c.args.output.now releases).files) c.new-outputs.ensures.items;
      lines = puts.lines (subst HaveLines (sym c.new-outputs.ensures.items) refl);
      summary = c.in_ok-summary.ensures releases follows;
      done = ap (nat_lt 0) follows.breaks;
    }
