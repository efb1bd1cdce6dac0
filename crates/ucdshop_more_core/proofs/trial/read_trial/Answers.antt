use Rattle.std.proofs.Common.{◌∙◌}
use Rattle.ucdshop_more_core.proofs.BesideLemmas.{given_as, judged_unread, refused_as}
use Rattle.ucdshop_more_core.proofs.TrialLemmas.{cut_trial}
use Rattle.ucdshop_more_core.specs.Trials.{trial_verdict}
use Rattle.ucdshop_more_core.specs.declared.trial.Trial.{Trial}
use Rattle.ucdshop_more_core.proofs.trial.read_trial.Goals as goal

pub returns-clause-given : goal.returns-clause-given
returns-clause-given g c =
    given_as (λ (trial : Trial). trial) (trial_verdict c.args.input.now c.args.tests.now) (cut_trial c.args.input.now c.args.tests.now) g.S.Shelf.tells (g.S.Shelf.holds c.args.shelf.now) c.args.input.now c.args.tests.now
    c.as_slice.result.now c.in_ok-held.held.items (c.as_slice.ensures ∙ c.in_ok-paths.ensures) c.in_ok-held.ensures.read c.judge_trial.result c.judge_trial.ensures

pub returns-clause-refused : goal.returns-clause-refused
returns-clause-refused g c =
    refused_as (λ (trial : Trial). trial) (trial_verdict c.args.input.now c.args.tests.now) (cut_trial c.args.input.now c.args.tests.now) g.S.Shelf.tells (g.S.Shelf.holds c.args.shelf.now) c.args.input.now c.args.tests.now
    c.as_slice.result.now c.in_ok-held.held.items (c.as_slice.ensures ∙ c.in_ok-paths.ensures) c.in_ok-held.ensures.read c.judge_trial.result c.judge_trial.ensures

pub returns-clause-unread : goal.returns-clause-unread
returns-clause-unread g c =
    judged_unread (λ (trial : Trial). trial) c.judge_trial.result (trial_verdict c.args.input.now c.args.tests.now c.in_ok-held.held.items) _ _ c.judge_trial.ensures c.in_ok-held.ensures.unread
