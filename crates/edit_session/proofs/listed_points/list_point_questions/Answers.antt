use Rattle.std.proofs.Common.{◌<◌, arith}
use Rattle.edit_session.proofs.QuestionLemmas.{below_count}
use Rattle.edit_session.proofs.listed_points.list_point_questions.Goals as goal

pub prepare_questions-requires-clause-record : goal.prepare_questions-requires-clause-record
prepare_questions-requires-clause-record c =
    let inside : c.args.c < 1114112 = omega (arith, c.number-number.ensures.value, c.number-number.ensures.bound) in
    c.requires c.args.c (below_count c.args.c inside)
