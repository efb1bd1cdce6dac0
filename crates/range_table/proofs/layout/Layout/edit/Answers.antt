use Rattle.std.proofs.Common.{arith, ap, subst, refl, ◌+◌}
use Rattle.range_table.specs.Layout.{Layout, IsLayout}
use Rattle.range_table.proofs.Lookups.{count_before-le, count_before-mono}
use Rattle.range_table.proofs.Splices.{change_to}
use Rattle.range_table.proofs.Spans.{SetsSpan-from_steps}
use Rattle.range_table.proofs.layout.Layout.edit.Goals as goal
use Rattle.range_table.proofs.layout.Layout.edit.Goals.{then-lo-eq0, else-lo-eq0, then-hi-eq-COUNT, else-hi-eq-COUNT}

pub value_of_run-requires : goal.value_of_run-requires
value_of_run-requires g c = rw c.count_before-from.ensures (count_before-le _ _)

pub value_of_run-requires-else-hi-eq-COUNT : goal.value_of_run-requires-else-hi-eq-COUNT
value_of_run-requires-else-hi-eq-COUNT g c = rw c.count_before-behind.ensures (count_before-le _ _)

pub returns-clause-ordered : goal.returns-clause-ordered
returns-clause-ordered g c =
    rw (c.count_before-from.ensures, c.count_before-behind.ensures)
    (count_before-mono c.first-lo.result (c.last-hi.result + 2) c.args.self.now.changes (omega arith))

pub returns-clause-within : goal.returns-clause-within
returns-clause-within g c = rw c.count_before-behind.ensures (count_before-le _ _)

pub returns-clause-set : goal.returns-clause-set
returns-clause-set g c =
    let eq = g.V.PartialEq.eq in
    let value = c.args.value in
    let valid = subst (λ (l : Layout _). IsLayout eq l.first l.changes) c.self.view_is c.self.invariant in
    rw (← c.first-lo.ensures.value, ← c.last-hi.ensures.value)
    (SetsSpan-from_steps eq c.args.self.now.first c.args.self.now.changes c.first-lo.result c.last-hi.result value c.count_before-from.result c.count_before-behind.result c.if-lo-eq0.first.1 c.change_to.result c.if-hi-eq-COUNT.ends c.if-lo-eq0.first.0 _
    g.met.V.Eq.laws.refl valid.same valid.follow (omega arith) (omega arith) c.count_before-from.ensures c.count_before-behind.ensures
    (λ zero. elim c.if-lo-eq0.branch [
      | then-lo-eq0 w ↦ ap (λ t. t.1) w.first-is
      | else-lo-eq0 w ↦ absurd (omega arith)
    ])
    (λ pos. elim c.if-lo-eq0.branch [
      | then-lo-eq0 w ↦ absurd (omega arith)
      | else-lo-eq0 w ↦ rw (ap (λ t. t.1) w.first-is) w.value_of_run.ensures
    ])
    c.change_to.ensures
    (λ last. elim c.if-hi-eq-COUNT.branch [
      | then-hi-eq-COUNT w ↦ w.ends-is
      | else-hi-eq-COUNT w ↦ absurd (omega arith)
    ])
    (λ inner. elim c.if-hi-eq-COUNT.branch [
      | then-hi-eq-COUNT w ↦ absurd (omega arith)
      | else-hi-eq-COUNT w ↦
          let after = ap (λ a. change_to eq value (c.last-hi.result + 1) a) w.value_of_run-else-hi-eq-COUNT.ensures in
          rw (w.ends-is, w.change_to-ends.ensures) after
    ])
    refl
    (λ zero. elim c.if-lo-eq0.branch [
      | then-lo-eq0 w ↦ ap (λ t. t.0) w.first-is
      | else-lo-eq0 w ↦ absurd (omega arith)
    ])
    (λ pos. elim c.if-lo-eq0.branch [
      | then-lo-eq0 w ↦ absurd (omega arith)
      | else-lo-eq0 w ↦ rw (ap (λ t. t.0) w.first-is) (ap (λ (l : Layout _). l.first) c.self.view_is)
    ]))
