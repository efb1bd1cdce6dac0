use Rattle.std.proofs.lemmas.Result.{err_from_is_err_and}
use Rattle.ending_tests.proofs.CheckLemmas.{planned, refused}
use Rattle.ending_tests.proofs.checker.prepare.Goals as goal

pub returns-clause-planned : goal.returns-clause-planned
returns-clause-planned g c =
    planned g.S.Shelf.tells (g.S.Shelf.holds c.args.shelf.now) (record { folder = c.args.folder.now; output = c.args.output.now }) c.in_ok-held.held.items c.in_ok-held.ensures.read
    c.in_ok-plan.plan c.in_ok-plan.ensures

pub returns-in_err-plan-clause-refused : goal.returns-in_err-plan-clause-refused
returns-in_err-plan-clause-refused g c =
    let p = err_from_is_err_and c.from_residual-in_err-plan.result c.from_residual-in_err-plan.ensures.1 in
    rw (p.1, p.2) (refused g.S.Shelf.tells (g.S.Shelf.holds c.args.shelf.now) (record { folder = c.args.folder.now; output = c.args.output.now }) c.in_ok-held.held.items c.in_ok-held.ensures.read
    _ c.in_err-plan.ensures)
