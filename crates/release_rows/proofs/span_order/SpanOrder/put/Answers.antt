use Rattle.std.proofs.Common.{◌≡◌, ◌∷◌, ◌++◌, [], ◌||◌, map, refl, subst, sym, ap, ◌∙◌}
use Rattle.std.specs.List.{list_any}
use Rattle.release_rows.specs.Keys.{spans_meet}
use Rattle.release_rows.specs.SpanOrders.{IsOrder, NoneBeginsBehind, bounds_of, reach_with}
use Rattle.release_rows.proofs.SpanOrder.{begun_with, put_met, put_behind, put_order}
use Rattle.release_rows.proofs.span_order.SpanOrder.put.Goals as goal

reach : (c : goal.In_ok-push) → c.reach_with-reach.result ≡ reach_with c.self.inside.spans.items c.args.span.hi
reach c = c.reach_with-reach.ensures ∙ rw c.as_slice.ensures.value refl

items : (c : goal.In_ok-push) → c.push.new.self.items ≡ c.self.inside.spans.items ++ begun_with c.self.inside.spans.items c.args.span ∷ []
items c = c.in_ok-push.ensures.items ∙ rw (reach c, c.first.ensures.value) refl

below : (c : goal.In_ok-push) → NoneBeginsBehind c.args.span.lo (map bounds_of c.self.inside.spans.items)
below c = subst (NoneBeginsBehind c.args.span.lo) (sym c.self.view_is) c.requires

pub invariant_of-self-2 : goal.invariant_of-self-2
invariant_of-self-2 c = subst IsOrder (sym (items c)) (put_order c.args.span c.self.inside.spans.items c.self.invariant (below c))

pub returns-clause-met : goal.returns-clause-met
returns-clause-met c = λ own.
    ap (λ bs. list_any (spans_meet own) (map bounds_of bs)) (items c)
    ∙ put_met own c.args.span c.self.inside.spans.items (below c)
    ∙ ap (λ spans. list_any (spans_meet own) spans || spans_meet own c.args.span) c.self.view_is

pub returns-clause-behind : goal.returns-clause-behind
returns-clause-behind c = subst (λ bs. NoneBeginsBehind c.args.span.lo (map bounds_of bs)) (sym (items c)) (put_behind c.args.span c.self.inside.spans.items (below c))
