use Rattle.std.proofs.Common.{List, ◌++◌, ap, subst, sym, refl, ◌∙◌}
use Rattle.run_endings.specs.Planning.{HaveLines}
use Rattle.run_endings.specs.PutProofs.{puts_then}
use Rattle.run_endings.specs.Writing.{files_of}
use Rattle.run_endings.specs.declared.output.Output.{Output}
use Rattle.ucdshop_more_core.specs.Run.{desk_ending_by}
use Rattle.ucdshop_more_core.proofs.desk_plan.plan_of_log.Goals as goal

pub returns : goal.returns
returns c =
    let log = c.args.log.now in
    let ending = desk_ending_by c.args.output.now c.args.bench.now.current log.text log.accepted log.refused in
    let puts = puts_then _ _ _ _ _ c.in_ok-put_sources.ensures c.in_ok-put_log.ensures in
    record {
      files = puts.put ∙ ap (λ (outputs : List Output). files_of outputs ++ ending.files) c.new-outputs.ensures.items;
      lines = puts.lines (subst HaveLines (sym c.new-outputs.ensures.items) refl);
      summary = c.in_ok-summary.ensures;
      done = refl;
    }
