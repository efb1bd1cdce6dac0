use Rattle.run_endings.specs.PromiseProofs.{promises_are_kept}
use Rattle.ending_tests.specs.Checker.{checker}
use Rattle.ending_tests.proofs.CheckLemmas.{writes_its_path}
use Rattle.ending_tests.proofs.checker.check.Goals as goal

pub returns : goal.returns
returns g c = promises_are_kept checker c.args.words.now g.S.Shelf c.args.shelf.now _ _ _ _ _ writes_its_path c.plan_words-planned.ensures.plans c.end_run.ensures
