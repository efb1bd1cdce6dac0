use Rattle.std.proofs.Common.{◌≡◌, ℕ, List, Result, subst}
use Rattle.run_endings.specs.Endings.{Seen}
use Rattle.run_inputs.specs.Held.{source_held}
use Rattle.run_inputs.specs.Judging.{ToldAs}
use Rattle.ucdshop_jobs.specs.JobWords.{job_of}
use Rattle.ucdshop_jobs.specs.Judging.{inputs_of}
use Rattle.ucdshop_jobs.specs.Run.{Inputs, earlier_place}
use Rattle.ucdshop_jobs.specs.VerdictLemmas.{judged_behind, same_release}
use Rattle.ucdshop_jobs.proofs.inputs.judge_inputs.Goals as goal

pub returns-clause-inputs : goal.returns-clause-inputs
returns-clause-inputs g c =
    subst (λ (v : Result Inputs (List ℕ)). ToldAs inputs_of c.judge_script_and_earlier.result v)
    (judged_behind (job_of c.args.job) c.args.held.now.items c.open_folder.new.held.items c.in_ok-bench.bench.current
    c.in_ok-bench.ensures.files c.open_folder.ensures.others)
    c.judge_script_and_earlier.ensures.inputs

pub judge_script_and_earlier-requires : goal.judge_script_and_earlier-requires
judge_script_and_earlier-requires g c = record {
  same = λ is. same_release (job_of c.args.job) c.args.held.now.items c.open_folder.new.held.items c.in_ok-bench.bench.current
      (subst (λ (seen : Seen). source_held seen (earlier_place (job_of c.args.job)) ≡ source_held seen 0) c.as_slice.ensures.value (c.is_same_release-same.ensures is))
      c.in_ok-bench.ensures.files c.open_folder.ensures.others;
}
