use Rattle.std.proofs.Common.{◌≤◌, leb, arith}
use Rattle.ucd_points.specs.Bounds.{Bounds}
use Rattle.unicodeset_eval.proofs.RisingEdges.{next_rises}
use Rattle.unicodeset_eval.proofs.rising.rising_union.Goals as goal

pub spans-preserved : goal.spans-preserved
spans-preserved c =
    let s : Bounds = c.span-item.result in
    let le : s.lo ≤ s.hi = omega (arith, c.first-in-spans.ensures.value, c.first-in-spans.ensures.ordered) in
    let behind : c.spans.end ≤ s.lo = omega (arith, c.if-first-end.false, c.first-in-spans.ensures.value) in
    next_rises (leb c.args.first.lo 0) c.spans.edges.items c.put_gap.new.edges.items c.spans.end c.first-in-spans-2.result c.last-end-in-spans.result c.spans.span-index c.args.first s c.args.others.now
    c.spans.invariant c.in_ok-put_gap.ensures c.first-in-spans-2.ensures.value c.last-end-in-spans.ensures.value c.spans-test.true c.span-item.is le behind
