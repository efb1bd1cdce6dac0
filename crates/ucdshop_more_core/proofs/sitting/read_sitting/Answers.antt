use Rattle.std.proofs.Common.{◌∙◌}
use Rattle.ucdshop_more_core.proofs.BesideLemmas.{given_as, judged_unread, refused_as}
use Rattle.ucdshop_more_core.proofs.BehindLemmas.{cut_verdict}
use Rattle.ucdshop_more_core.specs.Sessions.{session_of, session_verdict, with_turns}
use Rattle.ucdshop_more_core.specs.Turns.{turns_in}
use Rattle.ucdshop_more_core.proofs.sitting.read_sitting.Goals as goal

pub returns-clause-given : goal.returns-clause-given
returns-clause-given g c =
    given_as session_of (session_verdict c.args.input.now c.args.events.now) (cut_verdict (turns_in c.args.events.now) with_turns c.args.input.now) g.S.Shelf.tells (g.S.Shelf.holds c.args.shelf.now) c.args.input.now c.args.events.now
    c.as_slice.result.now c.in_ok-held.held.items (c.as_slice.ensures ∙ c.in_ok-paths.ensures) c.in_ok-held.ensures.read c.judge_sitting.result c.judge_sitting.ensures.session

pub returns-clause-refused : goal.returns-clause-refused
returns-clause-refused g c =
    refused_as session_of (session_verdict c.args.input.now c.args.events.now) (cut_verdict (turns_in c.args.events.now) with_turns c.args.input.now) g.S.Shelf.tells (g.S.Shelf.holds c.args.shelf.now) c.args.input.now c.args.events.now
    c.as_slice.result.now c.in_ok-held.held.items (c.as_slice.ensures ∙ c.in_ok-paths.ensures) c.in_ok-held.ensures.read c.judge_sitting.result c.judge_sitting.ensures.session

pub returns-clause-unread : goal.returns-clause-unread
returns-clause-unread g c =
    judged_unread session_of c.judge_sitting.result (session_verdict c.args.input.now c.args.events.now c.in_ok-held.held.items) _ _ c.judge_sitting.ensures.session c.in_ok-held.ensures.unread
