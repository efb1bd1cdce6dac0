use Rattle.std.proofs.Common.{ℕ, ap, ◌∙◌, ◌&&◌, nat_lt}
use Rattle.release_rows.specs.Releases.{rows_now}
use Rattle.ucd_model.specs.Records.{Record}
use Rattle.ucd_points.specs.Limits.{point_count}
use Rattle.unicodeset_eval.specs.Indexes.{index_holds}
use Rattle.unicodeset_eval.specs.Tests.{test_holds}
use Rattle.set_answers.proofs.AskingLemmas.{holds_are}
use Rattle.set_answers.proofs.asking.index_of.Goals as goal

pub of-requires-clause-categories : goal.of-requires-clause-categories
of-requires-clause-categories g c = λ k lt. ap (λ (R : ℕ → Record). (R k).category) c.requires.records

pub returns : goal.returns
returns g c =
    holds_are c.args.release.now.current (index_holds g.B.Records.record_of c.of.result)
    (λ test k. c.of.ensures test k ∙ ap (λ (R : ℕ → Record). nat_lt k point_count && test_holds R (rows_now c.args.release.now) test k) c.requires.records)
