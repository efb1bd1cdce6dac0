use Rattle.std.proofs.Common.{ap}
use Rattle.ending_tests.specs.Checker.{check_of, judged, valid_ending}
use Rattle.ending_tests.proofs.checker.judged_plan.Goals as goal

pub returns-in_ok-valid_plan-in-Ok : goal.returns-in_ok-valid_plan-in-Ok
returns-in_ok-valid_plan-in-Ok g c = (
  valid_ending (check_of c.args.folder.now c.args.output.now),
  ap (judged (check_of c.args.folder.now c.args.output.now)) c.in-Ok.ensures.files,
  c.in_ok-valid_plan-in-Ok.ensures c.args.folder.now,
)
