use Rattle.ucdshop_look_core.specs.Commands.{job_of}
use Rattle.ucdshop_look_core.proofs.LookLemmas.{has_room, judged_unread, planned, refused}
use Rattle.ucdshop_look_core.proofs.planning.prepare.Goals as goal

pub returns-clause-planned : goal.returns-clause-planned
returns-clause-planned g c =
    planned g.S.Shelf.tells (g.S.Shelf.holds c.args.shelf.now) (job_of c.args.command) c.in_ok-held.held.items c.in_ok-held.ensures.read c.held_plan.result c.held_plan.ensures

pub returns-clause-refused : goal.returns-clause-refused
returns-clause-refused g c =
    refused g.S.Shelf.tells (g.S.Shelf.holds c.args.shelf.now) (job_of c.args.command) c.in_ok-held.held.items c.in_ok-held.ensures.read c.held_plan.result c.held_plan.ensures

pub returns-clause-room : goal.returns-clause-room
returns-clause-room g c = has_room (job_of c.args.command) c.in_ok-held.held.items _ c.held_plan.result c.held_plan.ensures

pub returns-clause-unread : goal.returns-clause-unread
returns-clause-unread g c = judged_unread (job_of c.args.command) c.in_ok-held.held.items _ _ c.held_plan.result c.held_plan.ensures c.in_ok-held.ensures.unread
