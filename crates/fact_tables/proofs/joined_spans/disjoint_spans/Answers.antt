use Rattle.std.proofs.Common.{◌≡◌, ◌+◌, ◌||◌, take, get_or, subst, sym, ap, ◌∙◌, arith, rules}
use Rattle.std.specs.List.{list_any}
use Rattle.std.specs.List.Sorted.{IsNonDecreasingBy}
use Rattle.std.proofs.lemmas.List.{take_all, get_or_default}
use Rattle.std.proofs.lemmas.List.Folds.{list_any_more}
use Rattle.std.proofs.lemmas.List.Sorted.{list_any-IsPermutation, IsNonDecreasingBy-from_sort_by_key}
use Rattle.ucd_points.specs.Bounds.{Bounds}
use Rattle.ucd_facts.specs.Facts.{within}
use Rattle.fact_tables.proofs.joined_spans.disjoint_spans.Goals as goal

pub spans-preserved : goal.spans-preserved
spans-preserved p =
    let items = p.as_slice-span-items.result.now in
    let i = p.spans.span-index in
    let item : p.span-item.result ≡ get_or items i p.span-item.result = p.span-item.is in
    let ascend : IsNonDecreasingBy (λ (span : Bounds). span.lo) items =
    subst (IsNonDecreasingBy (λ (span : Bounds). span.lo)) (sym p.as_slice-span-items.ensures.value)
    (IsNonDecreasingBy-from_sort_by_key (λ (span : Bounds). span.lo) p.sort_by_key.new.self.items p.in_ok-sort_by_key.ensures.sorted (λ a r f k. search rules)) in
    record {
      covered = λ c. p.in_ok-next.ensures.covered c
          ∙ ap (λ b. b || within c p.span-item.result) (p.spans.invariant.covered c)
          ∙ ap (λ (span : Bounds). list_any (within c) (take i items) || within c span) item
          ∙ sym (list_any_more (within c) items i p.span-item.result (omega arith));
      apart = p.in_ok-next.ensures.apart;
      begins = λ d lt.
          let up = ascend i (i + 1) d (omega arith) lt in
          let here = ap (λ (span : Bounds). span.lo) (get_or_default items i d p.span-item.result (omega arith) ∙ sym item) in
          let next = p.in_ok-next.ensures.begins in omega (arith, up, here, next);
    }

pub returns-clause-covered : goal.returns-clause-covered
returns-clause-covered p c =
    let all : take p.spans.span-index p.as_slice-span-items.result.now ≡ p.sort_by_key.new.self.items = take_all p.spans.span-index p.as_slice-span-items.result.now (omega arith) ∙ p.as_slice-span-items.ensures.value in
    p.in_ok-put_last_span.ensures.covered c ∙ p.spans.invariant.covered c ∙ ap (list_any (within c)) all
    ∙ sym (list_any-IsPermutation (within c) p.in_ok-sorted.sorted.items p.sort_by_key.new.self.items p.sort_by_key.ensures.permutation)
    ∙ ap (list_any (within c)) p.in_ok-sorted.ensures.items
