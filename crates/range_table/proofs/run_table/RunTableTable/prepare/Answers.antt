use Rattle.std.proofs.Common.{◌≡◌, ◌∙◌, sym, unwrap_or}
use Rattle.range_table.proofs.run_table.RunTableTable.prepare.Goals as goal
use Rattle.range_table.proofs.run_table.RunTableTable.prepare.Goals.{in-Some, in-None+in_ok-next-in-None}

pub returns-clause-err : goal.returns-clause-err
returns-clause-err g c =
    let taken : c.match-take.next ≡ unwrap_or c.args.self.now.prepared c.args.self.now.committed =
    elim c.match-take.branch [
      | in-Some w ↦ rw (sym c.take.ensures.value ∙ w.in-Some.is) w.next-is
      | in-None+in_ok-next-in-None w ↦
          rw (sym c.take.ensures.value ∙ w.in-None.is) (w.next-is ∙ w.in_ok-next-in-None.ensures)
    ]
    in
    rw (← taken) c.set-done.ensures.err
