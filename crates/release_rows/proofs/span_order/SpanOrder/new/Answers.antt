use Rattle.std.proofs.Common.{◌≡◌, ◌+◌, ◌≤◌, ◌||◌, take, get_or, subst, sym, ap, ◌∙◌, arith, rules}
use Rattle.std.specs.List.{list_any}
use Rattle.std.specs.List.Sorted.{IsNonDecreasingBy}
use Rattle.std.proofs.lemmas.List.{take_all, get_or_default}
use Rattle.std.proofs.lemmas.List.Elements.{All-weaker}
use Rattle.std.proofs.lemmas.List.Folds.{list_any_more}
use Rattle.std.proofs.lemmas.List.Sorted.{list_any-IsPermutation, IsNonDecreasingBy-from_sort_by_key}
use Rattle.ucd_points.specs.Bounds.{Bounds}
use Rattle.release_rows.specs.Keys.{spans_meet}
use Rattle.release_rows.proofs.span_order.SpanOrder.new.Goals as goal

pub spans-preserved : goal.spans-preserved
spans-preserved c =
    let items = c.as_slice-span-items.result.now in
    let i = c.spans.span-index in
    let item : c.span-item.result ≡ get_or items i c.span-item.result = c.span-item.is in
    let ascend : IsNonDecreasingBy (λ (span : Bounds). span.lo) items =
    subst (IsNonDecreasingBy (λ (span : Bounds). span.lo)) (sym c.as_slice-span-items.ensures.value)
    (IsNonDecreasingBy-from_sort_by_key (λ (span : Bounds). span.lo) c.sort_by_key.new.self.items c.in_ok-sort_by_key.ensures.sorted (λ a r f k. search rules)) in
    record {
      met = λ own. c.in_ok-put.ensures.met own
          ∙ ap (λ b. b || spans_meet own c.span-item.result) (c.spans.invariant.met own)
          ∙ ap (λ (span : Bounds). list_any (spans_meet own) (take i items) || spans_meet own span) item
          ∙ sym (list_any_more (spans_meet own) items i c.span-item.result (omega arith));
      behind = λ d lt. All-weaker (λ (b : Bounds). b.lo ≤ c.span-item.result.lo) (λ (b : Bounds). b.lo ≤ (get_or items (i + 1) d).lo)
          (λ b le. let up = ascend i (i + 1) d (omega arith) lt in let here = ap (λ (span : Bounds). span.lo) (get_or_default items i d c.span-item.result (omega arith) ∙ sym item) in omega arith) c.put.new.self c.in_ok-put.ensures.behind;
    }

pub returns : goal.returns
returns c =
    λ own.
    let all : take c.spans.span-index c.as_slice-span-items.result.now ≡ c.sort_by_key.new.self.items = take_all c.spans.span-index c.as_slice-span-items.result.now (omega arith) ∙ c.as_slice-span-items.ensures.value in
    c.spans.invariant.met own ∙ ap (list_any (spans_meet own)) all
    ∙ sym (list_any-IsPermutation (spans_meet own) c.in_ok-sorted.sorted.items c.sort_by_key.new.self.items c.sort_by_key.ensures.permutation)
    ∙ ap (list_any (spans_meet own)) c.in_ok-sorted.ensures.items
