use Rattle.std.proofs.Common.{leb}
use Rattle.unicodeset_eval.proofs.RisingEdges.{IsRising, so_far}
use Rattle.unicodeset_eval.proofs.rising.rising_union.Given as goal

-- the edges so far, and the end, are those of the spans so far
abbrev pub invariant-spans : goal.invariant-spans
invariant-spans l = IsRising (leb l.first.lo 0) l.edges.items 1 l.end (so_far l.first l.others l.span-index)
