use Rattle.std.proofs.Common.{ap}
use Rattle.release_rows.specs.Releases.{ReleaseItems}
use Rattle.run_inputs.specs.Held.{source_held}
use Rattle.run_inputs.proofs.BenchLemmas.{broken_verdict, opened_verdict}
use Rattle.run_inputs.proofs.judging.judge_folder.Goals as goal

pub returns-in-Ok-clause-files : goal.returns-in-Ok-clause-files
returns-in-Ok-clause-files g c =
    opened_verdict (source_held c.args.held.now.items c.args.first) c.in_ok-release.release.current _ c.in_ok-release.ensures.files
    (ap (λ (r : ReleaseItems). r.current) c.in-Ok.ensures.ok) c.in-Ok.ensures.valid

pub returns-in-Err-clause-files : goal.returns-in-Err-clause-files
returns-in-Err-clause-files g c =
    broken_verdict (source_held c.args.held.now.items c.args.first) c.in_ok-release.release.current c.in-Err.stop c.opening_stop.result c.in_ok-release.ensures.files
    c.in-Err.ensures.invalid c.opening_stop.ensures
