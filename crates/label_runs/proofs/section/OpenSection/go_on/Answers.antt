use Rattle.std.proofs.Common.{arith}
use Rattle.label_runs.proofs.section.OpenSection.go_on.Goals as goal

pub returns-clause-written : goal.returns-clause-written
returns-clause-written c =
    rw (← c.self.view_is) (λ n f front stretch written.
    let total = c.in_ok-self-inside.ensures.total n f written.run stretch in
    record {
      run = c.in_ok-self-inside.ensures.opens n f written.run stretch;
      lines = c.in_ok-self-inside.ensures.lines n f written.run stretch front written.lines;
      total = omega (arith, total, written.total);
    })
