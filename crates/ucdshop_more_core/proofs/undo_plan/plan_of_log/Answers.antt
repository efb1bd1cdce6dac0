use Rattle.std.proofs.Common.{List, ◌++◌, ap, subst, sym, refl, ◌∙◌}
use Rattle.run_endings.specs.Planning.{HaveLines}
use Rattle.run_endings.specs.PutProofs.{puts_then}
use Rattle.run_endings.specs.Writing.{files_of}
use Rattle.run_endings.specs.declared.output.Output.{Output}
use Rattle.ucdshop_more_core.specs.Run.{course_ending}
use Rattle.ucdshop_more_core.specs.Undoing.{course_of}
use Rattle.ucdshop_more_core.proofs.undo_plan.plan_of_log.Goals as goal

pub returns : goal.returns
returns c =
    let ending = course_ending c.args.output.now (course_of c.args.history.now c.args.log.now) in
    let puts = puts_then _ _ _ _ _ c.in_ok-put_release.ensures c.in_ok-put_log.ensures in
    record {
      files = puts.put ∙ ap (λ (outputs : List Output). files_of outputs ++ ending.files) c.new-outputs.ensures.items;
      lines = puts.lines (subst HaveLines (sym c.new-outputs.ensures.items) refl);
      summary = c.in_ok-summary.ensures;
      done = refl;
    }
