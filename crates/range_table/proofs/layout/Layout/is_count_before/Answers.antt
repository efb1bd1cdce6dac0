use Rattle.std.proofs.Common.{arith}
use Rattle.std.proofs.lemmas.Bool.Decides.{nat_tests}
use Rattle.range_table.proofs.Lookups.{count_before-le, starts_ascend, count_before-between}
use Rattle.range_table.proofs.layout.Layout.is_count_before.Goals as goal
use Rattle.range_table.proofs.layout.Layout.is_count_before.Goals.{then-count-eq0-via-then-count-eq0, then-count-eq0-via-else-count-eq0+then-changes-count}

pub returns-then-count-len : goal.returns-then-count-len
returns-then-count-len g c is =
    let xs = c.self.inside.changes.items in
    let ascend = starts_ascend _ _ _ _ c.self.invariant.follow in
    rw (← c.self.view_is)
    (elim c.then-count-eq0.branch [
      | then-count-eq0-via-then-count-eq0 w ↦ omega (arith, count_before-le c.args.start xs)
      | then-count-eq0-via-else-count-eq0+then-changes-count w ↦
          let last = rw c.as_slice-changes.ensures.value at w.if-changes-count.true in
          let d = w.index-changes-count.result in
          count_before-between c.args.start xs c.args.count d d ascend (omega arith) (λ _. last) (λ beyond. absurd (omega arith))
    ])

pub returns-else-count-len : goal.returns-else-count-len
returns-else-count-len g c is =
    let xs = c.self.inside.changes.items in
    let ascend = starts_ascend _ _ _ _ c.self.invariant.follow in
    let e = c.index-changes-count-else-count-len.result in
    let next = rw c.as_slice-changes.ensures.value at is in
    rw (← c.self.view_is)
    (elim c.then-count-eq0.branch [
      | then-count-eq0-via-then-count-eq0 w ↦ count_before-between c.args.start xs c.args.count e e ascend (omega arith) (λ some. absurd (omega arith)) (λ _. grind (arith, nat_tests))
      | then-count-eq0-via-else-count-eq0+then-changes-count w ↦
          let last = rw c.as_slice-changes.ensures.value at w.if-changes-count.true in
          count_before-between c.args.start xs c.args.count w.index-changes-count.result e ascend (omega arith) (λ _. last) (λ _. grind (arith, nat_tests))
    ])
