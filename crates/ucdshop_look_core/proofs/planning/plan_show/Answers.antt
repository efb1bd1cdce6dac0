use Rattle.std.proofs.Common.{ap}
use Rattle.ucdshop_look_core.specs.Points.{points_in}
use Rattle.ucdshop_look_core.specs.Run.{finished}
use Rattle.ucdshop_look_core.specs.Shown.{show_ending}
use Rattle.ucdshop_look_core.proofs.planning.plan_show.Goals as goal

pub returns-in_ok-shown_plan-in-Ok : goal.returns-in_ok-shown_plan-in-Ok
returns-in_ok-shown_plan-in-Ok g c = (
  show_ending (points_in c.args.points.now) c.in-Ok.bench.current,
  ap (finished (show_ending (points_in c.args.points.now))) c.in-Ok.ensures.files,
  c.in_ok-shown_plan-in-Ok.ensures,
)
