use Rattle.std.proofs.Common.{ℕ, List, ◌∷◌, drop, ◌+◌, subst, sym, ap, ◌∙◌, arith}
use Rattle.std.proofs.lemmas.List.{drop_more, drop_all}
use Rattle.ucd_points.specs.Bounds.{Bounds}
use Rattle.ucd_points.specs.Limits.{point_count}
use Rattle.ucd_model.specs.Sameness.{is_in}
use Rattle.ucdshop_look_core.specs.PointSpans.{IsLast}
use Rattle.ucdshop_look_core.proofs.PointSpanLemmas.{ends_all, opens}
use Rattle.ucdshop_look_core.proofs.spanning.point_spans.Goals as goal

pub points-init : goal.points-init
points-init c =
    subst (λ (s : Bounds). IsLast point_count (is_in c.args.points.now) c.new-spans.result s c.in-Some.behind.now) (sym c.one-last.ensures)
    (subst (λ (xs : List Bounds). IsLast point_count (is_in c.args.points.now) xs (record { lo = c.in-Some.first.now; hi = c.in-Some.first.now }) c.in-Some.behind.now) (sym c.new-spans.ensures)
    (opens point_count (is_in c.args.points.now) c.in-Some.first.now c.in-Some.behind.now (sym c.in-Some.ensures.cases.0 ∙ c.requires)))

pub points-preserved : goal.points-preserved
points-preserved c =
    c.in_ok-last.ensures point_count (is_in c.args.points.now) _
    (subst (λ (rest : List ℕ). IsLast point_count (is_in c.args.points.now) c.points.spans c.points.last rest) (drop_more c.in-Some.behind.now c.points.point-index c.point-item.result (omega arith) ∙ ap (λ (x : ℕ). x ∷ drop (c.points.point-index + 1) c.in-Some.behind.now) (sym c.point-item.is))
    c.points.invariant)

pub returns : goal.returns
returns c =
    c.in_ok-push.ensures.ok
    ∙ ends_all point_count (is_in c.args.points.now) c.points.spans c.points.last
    (subst (λ (rest : List ℕ). IsLast point_count (is_in c.args.points.now) c.points.spans c.points.last rest) (drop_all c.points.point-index c.in-Some.behind.now (omega arith)) c.points.invariant)
