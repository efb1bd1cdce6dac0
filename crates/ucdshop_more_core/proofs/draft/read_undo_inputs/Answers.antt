use Rattle.std.proofs.Common.{◌∙◌}
use Rattle.ucdshop_more_core.proofs.BesideLemmas.{given_as, judged_unread, refused_as}
use Rattle.ucdshop_more_core.proofs.BehindLemmas.{cut_verdict}
use Rattle.ucdshop_more_core.specs.Drafts.{draft_of, draft_verdict, with_moves}
use Rattle.ucdshop_more_core.specs.Moves.{moves_in}
use Rattle.ucdshop_more_core.proofs.draft.read_undo_inputs.Goals as goal

pub returns-clause-given : goal.returns-clause-given
returns-clause-given g c =
    given_as draft_of (draft_verdict c.args.input.now c.args.script.now) (cut_verdict (moves_in c.args.script.now) with_moves c.args.input.now) g.S.Shelf.tells (g.S.Shelf.holds c.args.shelf.now) c.args.input.now c.args.script.now
    c.as_slice.result.now c.in_ok-held.held.items (c.as_slice.ensures ∙ c.in_ok-paths.ensures) c.in_ok-held.ensures.read c.judge_undo_inputs.result c.judge_undo_inputs.ensures.draft

pub returns-clause-refused : goal.returns-clause-refused
returns-clause-refused g c =
    refused_as draft_of (draft_verdict c.args.input.now c.args.script.now) (cut_verdict (moves_in c.args.script.now) with_moves c.args.input.now) g.S.Shelf.tells (g.S.Shelf.holds c.args.shelf.now) c.args.input.now c.args.script.now
    c.as_slice.result.now c.in_ok-held.held.items (c.as_slice.ensures ∙ c.in_ok-paths.ensures) c.in_ok-held.ensures.read c.judge_undo_inputs.result c.judge_undo_inputs.ensures.draft

pub returns-clause-unread : goal.returns-clause-unread
returns-clause-unread g c =
    judged_unread draft_of c.judge_undo_inputs.result (draft_verdict c.args.input.now c.args.script.now c.in_ok-held.held.items) _ _ c.judge_undo_inputs.ensures.draft c.in_ok-held.ensures.unread
