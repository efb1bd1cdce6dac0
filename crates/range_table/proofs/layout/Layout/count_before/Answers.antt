use Rattle.std.proofs.Common.{arith, ◌≡◌, ◌-◌, length, rules, ltb, ltb-true}
use Rattle.std.proofs.lemmas.List.Sorted.{IsPartitionPoint-from_clause, IsPartitionedBy-ltb}
use Rattle.std.proofs.lemmas.Bool.Decides.{nat_tests}
use Rattle.range_table.proofs.Lookups.{count_before-le, count_before-unique, starts_ascend, count_before-between}
use Rattle.range_table.proofs.layout.Layout.count_before.Goals as goal
use Rattle.range_table.proofs.layout.Layout.count_before.Goals.{then-len-eq0-via-then-len-eq0, then-len-eq0-via-else-len-eq0+then-changes-len, then-len-eq1-via-then-len-eq1, then-len-eq1-via-else-len-eq1+then-changes-len-2}

pub returns-then-len-eq0 : goal.returns-then-len-eq0
returns-then-len-eq0 g c =
    let xs = c.self.inside.changes.items in
    let ascend = starts_ascend _ _ _ _ c.self.invariant.follow in
    rw (← c.self.view_is)
    (rw c.as_slice-changes.ensures.value
    (elim c.then-len-eq0.branch [
      | then-len-eq0-via-then-len-eq0 w ↦
          let none = rw c.as_slice-changes.ensures.value at w.if-len-eq0.true in
          omega (arith, count_before-le c.args.start xs)
      | then-len-eq0-via-else-len-eq0+then-changes-len w ↦
          let last = rw c.as_slice-changes.ensures.value at w.if-changes-len.true in
          let d = w.index-changes-len.result in
          count_before-between c.args.start xs (length xs) d d ascend (omega arith) (λ _. last) (λ beyond. omega arith)
    ]))

pub returns-then-len-eq1 : goal.returns-then-len-eq1
returns-then-len-eq1 g c =
    let xs = c.self.inside.changes.items in
    let ascend = starts_ascend _ _ _ _ c.self.invariant.follow in
    let d = c.index-changes-len.result in
    let last = rw c.as_slice-changes.ensures.value at c.if-changes-len.false in
    rw (← c.self.view_is)
    (rw c.as_slice-changes.ensures.value
    (elim c.then-len-eq1.branch [
      | then-len-eq1-via-then-len-eq1 w ↦
          let one = rw c.as_slice-changes.ensures.value at w.if-len-eq1.true in
          count_before-between c.args.start xs (length xs - 1) d d ascend (omega arith) (λ some. absurd (omega arith)) (λ _. last)
      | then-len-eq1-via-else-len-eq1+then-changes-len-2 w ↦
          let before = rw c.as_slice-changes.ensures.value at w.if-changes-len-2.true in
          let e = w.index-changes-len-else-len-eq1.result in
          let index : length xs - 2 ≡ length xs - 1 - 1 = omega arith in
          count_before-between c.args.start xs (length xs - 1) e d ascend (omega arith) (λ _. rw index at before) (λ _. last)
    ]))

pub returns : goal.returns
returns g c =
    let s = c.args.start in
    let xs = c.self.inside.changes.items in
    let ascend = starts_ascend _ _ _ _ c.self.invariant.follow in
    let clause = rw c.as_slice-changes.ensures.value at c.partition_point.ensures.partitioned in
    let bound = rw c.as_slice-changes.ensures.value at c.partition_point.ensures.bound in
    let point = IsPartitionPoint-from_clause (λ x. ltb x.start s) xs c.partition_point.result clause (IsPartitionedBy-ltb (λ x. x.start) xs s ascend) (λ a r q k. search rules) in
    rw (← c.self.view_is)
    (count_before-unique s xs c.partition_point.result bound
    (λ k e lt. ltb-true _ _ (point.0 k e (omega arith) lt))
    (λ k e le lt. let h = point.1 k e le lt in grind (arith, nat_tests)))
