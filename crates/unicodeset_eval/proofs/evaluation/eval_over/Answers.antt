use Rattle.ucd_points.specs.Limits.{point_count}
use Rattle.unicodeset_parser.specs.Views.{tree_view}
use Rattle.unicodeset_eval.proofs.AnswerLemmas.{answer_is, answer_stops}
use Rattle.unicodeset_eval.proofs.evaluation.eval_over.Goals as goal

pub returns-in_ok-spans-in-Ok : goal.returns-in_ok-spans-in-Ok
returns-in_ok-spans-in-Ok g c = λ s are.
    answer_is point_count c.args.aliases.now s (g.T.TestSets.holds c.args.index.now) (tree_view c.args.expr.now) c.in-Ok.set c.in_ok-spans-in-Ok.field-0 are c.in-Ok.ensures c.in_ok-spans-in-Ok.ensures

pub returns-in-Err : goal.returns-in-Err
returns-in-Err g c = λ s are.
    answer_stops point_count c.args.aliases.now s (g.T.TestSets.holds c.args.index.now) (tree_view c.args.expr.now) c.in-Err.stop are c.in-Err.ensures
