use Rattle.run_endings.specs.PromiseProofs.{promises_are_kept}
use Rattle.ucdshop_jobs.specs.Run.{ucdshop}
use Rattle.ucdshop_jobs.specs.Jobs.{form}
use Rattle.ucdshop_jobs.specs.CountingLemmas.{ends_count}
use Rattle.ucdshop_core.proofs.PlanningLemmas.{writes_its_paths}
use Rattle.ucdshop_core.proofs.program.run_counted.Goals as goal

pub returns-clause-run : goal.returns-clause-run
returns-clause-run g c = promises_are_kept ucdshop c.args.words.now g.S.Shelf c.args.shelf.now _ _ _ _ _ writes_its_paths c.plan_words-planned.ensures.plans c.end_run.ensures

pub returns-clause-stopped : goal.returns-clause-stopped
returns-clause-stopped g c = ends_count (form c.args.words.now) c.args.steps.now _ _ c.plan_words-planned.result g.S.Shelf c.plan_words-planned.new.shelf _ _ _ c.end_run.ensures c.plan_words-planned.ensures.stops
