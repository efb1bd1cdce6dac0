use Rattle.release_rows.specs.Releases.{rows_now}
use Rattle.unicodeset_eval.specs.IndexLaws.{says_is}
use Rattle.unicodeset_eval.proofs.index.SetIndex.of.Goals as goal

pub returns : goal.returns
returns g c = λ test x. says_is (g.B.Records.record_of c.args.bench.now) (rows_now c.args.release.now) c.args.rows.now c.requires.rows c.assigned_have_categories.ensures c.requires.categories test x
