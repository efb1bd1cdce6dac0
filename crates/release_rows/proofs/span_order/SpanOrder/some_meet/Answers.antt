use Rattle.std.proofs.Common.{◌≡◌, leb, rules, ap, ◌∙◌, arith}
use Rattle.std.proofs.lemmas.Bool.Decides.{nat_tests}
use Rattle.std.specs.List.{list_any}
use Rattle.std.proofs.lemmas.List.Sorted.{IsPartitionPoint-from_clause, IsPartitionedBy-leb}
use Rattle.release_rows.specs.Keys.{spans_meet}
use Rattle.release_rows.specs.declared.span_order.Begun.{Begun}
use Rattle.release_rows.proofs.SpanOrder.{some_begun, none_begun}
use Rattle.release_rows.proofs.span_order.SpanOrder.some_meet.Goals as goal

pub returns-then-begun-gt0 : goal.returns-then-begun-gt0
returns-then-begun-gt0 c =
    let bs = c.self.inside.spans.items in
    let k = c.partition_point-begun.result in
    let clause = rw c.as_slice.ensures.value at c.partition_point-begun.ensures.partitioned in
    let bound = rw c.as_slice.ensures.value at c.partition_point-begun.ensures.bound in
    let point = IsPartitionPoint-from_clause (λ b. leb b.first c.args.hi) bs k clause (IsPartitionedBy-leb (λ b. b.first) bs c.args.hi c.self.invariant.firsts) (λ a r q f. search rules) in
    ap (λ (b : Begun). leb c.args.lo b.reach) c.index.ensures
    ∙ some_begun c.args.lo c.args.hi bs k c.index.result.now c.self.invariant c.if-begun-gt0.true bound point
    ∙ ap (list_any (spans_meet (record { lo = c.args.lo; hi = c.args.hi }))) c.self.view_is

pub returns-else-begun-gt0 : goal.returns-else-begun-gt0
returns-else-begun-gt0 c =
    let bs = c.self.inside.spans.items in
    let k = c.partition_point-begun.result in
    let clause = rw c.as_slice.ensures.value at c.partition_point-begun.ensures.partitioned in
    let point = IsPartitionPoint-from_clause (λ b. leb b.first c.args.hi) bs k clause (IsPartitionedBy-leb (λ b. b.first) bs c.args.hi c.self.invariant.firsts) (λ a r q f. search rules) in
    let none : k ≡ 0 = grind (arith, nat_tests) in
    let first = rw none at point in
    rw none (none_begun c.args.lo c.args.hi bs first ∙ ap (list_any (spans_meet (record { lo = c.args.lo; hi = c.args.hi }))) c.self.view_is)
