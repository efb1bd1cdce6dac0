use Rattle.run_endings.specs.PromiseProofs.{promises_are_kept}
use Rattle.ucdshop_more_core.specs.Run.{ucdshop_more}
use Rattle.ucdshop_more_core.proofs.EndingLemmas.{reads_in_order, writes_its_paths}
use Rattle.ucdshop_more_core.proofs.program.run_with_new_counter.Goals as goal

pub returns-clause-run : goal.returns-clause-run
returns-clause-run g c = promises_are_kept ucdshop_more c.args.words.now g.S.Shelf c.args.shelf.now _ _ _ _ _ writes_its_paths c.plan_words-planned.ensures.plans c.end_run.ensures

pub returns-clause-in_order : goal.returns-clause-in_order
returns-clause-in_order g c = reads_in_order c.args.words.now _ g.S.Shelf c.args.shelf.now _ _ _ _ _ c.end_run.ensures c.plan_words-planned.ensures.in_order
