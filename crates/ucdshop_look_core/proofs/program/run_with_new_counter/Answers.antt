use Rattle.run_endings.specs.PromiseProofs.{promises_are_kept}
use Rattle.ucdshop_look_core.specs.Run.{ucdshop_look}
use Rattle.ucdshop_look_core.proofs.NothingWritten.{stays, writes_its_paths}
use Rattle.ucdshop_look_core.proofs.program.run_with_new_counter.Goals as goal

pub returns-clause-run : goal.returns-clause-run
returns-clause-run g c = promises_are_kept ucdshop_look c.args.words.now g.S.Shelf c.args.shelf.now _ _ _ _ _ writes_its_paths c.plan_words-planned.ensures.plans c.end_run.ensures

pub returns-clause-unchanged : goal.returns-clause-unchanged
returns-clause-unchanged g c =
    stays c.args.words.now _ _ _
    (promises_are_kept ucdshop_look c.args.words.now g.S.Shelf c.args.shelf.now _ _ _ _ _ writes_its_paths c.plan_words-planned.ensures.plans c.end_run.ensures)
