use Rattle.std.proofs.Common.{ℕ, List, Option, subst}
use Rattle.run_inputs.specs.Held.{held_at}
use Rattle.ucdshop_more_core.proofs.TrialLemmas.{TriedAs, judged_behind}
use Rattle.ucdshop_more_core.specs.Trials.{cases_told, with_cases}
use Rattle.ucdshop_more_core.proofs.trial.judge_trial.Goals as goal

pub returns : goal.returns
returns g c =
    subst (TriedAs c.judge_case_file.result)
    (judged_behind c.args.input.now c.args.tests.now c.args.held.now.items c.open_folder.new.held.items c.in_ok-bench.bench c.in_ok-bench.ensures.files c.in_ok-bench.ensures.still c.open_folder.ensures.others)
    (subst (λ (held : List (Option (List ℕ))). TriedAs c.judge_case_file.result (with_cases c.in_ok-bench.bench (cases_told c.args.tests.now (held_at held 9)))) c.as_slice.ensures.value c.judge_case_file.ensures)
