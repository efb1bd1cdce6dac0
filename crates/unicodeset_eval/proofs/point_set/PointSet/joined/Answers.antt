use Rattle.std.proofs.Common.{sym}
use Rattle.unicodeset_eval.specs.Edges.{Edges, holds}
use Rattle.unicodeset_eval.specs.EdgeLaws.{merge_rises, merge_has}
use Rattle.unicodeset_eval.proofs.point_set.PointSet.joined.Goals as goal

pub invariant_of-result : goal.invariant_of-result
invariant_of-result c =
    let edges = c.in_ok-merge.ensures in
    rw (edges, c.as_slice.ensures.value, c.as_slice-2.ensures.value)
    (merge_rises (holds c.args.join) c.first.inside.has_zero c.first.inside.edges.items c.second.inside.has_zero c.second.inside.edges.items 1 c.first.invariant c.second.invariant)

pub returns : goal.returns
returns c = λ x.
    let edges = c.in_ok-merge.ensures in
    let s : Edges = record { has_zero = c.first.inside.has_zero; edges = c.first.inside.edges.items } in
    let t : Edges = record { has_zero = c.second.inside.has_zero; edges = c.second.inside.edges.items } in
    let members = merge_has (holds c.args.join) s.has_zero s.edges t.has_zero t.edges 1 c.first.invariant c.second.invariant x in
    rw (sym c.first.view_is, sym c.second.view_is, c.holds.ensures, edges, c.as_slice.ensures.value, c.as_slice-2.ensures.value) members
