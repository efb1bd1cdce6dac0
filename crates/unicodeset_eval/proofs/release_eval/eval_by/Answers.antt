use Rattle.std.proofs.Common.{subst}
use Rattle.property_aliases.specs.Sources.{sources_of}
use Rattle.ucd_points.specs.Limits.{point_count}
use Rattle.release_rows.specs.Releases.{rows_now}
use Rattle.unicodeset_eval.specs.Answers.{Gives}
use Rattle.unicodeset_eval.specs.Indexes.{index_holds}
use Rattle.unicodeset_eval.specs.ReleaseTests.{release_tests}
use Rattle.unicodeset_parser.specs.Views.{tree_view}
use Rattle.unicodeset_eval.proofs.AnswerLemmas.{answer_by}
use Rattle.unicodeset_eval.proofs.release_eval.eval_by.Goals as goal

pub returns : goal.returns
returns g c =
    let s = sources_of c.args.release.now in
    let records = g.B.Records.record_of in
    let told = release_tests (records c.args.bench.now) (rows_now c.args.release.now) in
    subst (λ m. Gives (λ spans. spans) c.eval_over.result m)
    (answer_by point_count s (index_holds records c.of-index.result) told (tree_view c.args.expr.now) c.of-index.ensures)
    (c.eval_over.ensures s c.requires.aliases)
