use Rattle.std.proofs.Common.{◌≡◌, cond, take, sym, ap, ◌∙◌, arith}
use Rattle.std.specs.List.{list_any}
use Rattle.std.proofs.lemmas.List.{take_all}
use Rattle.std.proofs.lemmas.List.Sorted.{list_any-IsPermutation}
use Rattle.ucd_facts.specs.Facts.{within}
use Rattle.fact_tables.proofs.painting.table_of_spans.Goals as goal

pub returns : goal.returns
returns c k lt =
    let given = c.args.spans.items in
    let sorted = c.sort_by_key.new.self.items in
    let all : take c.spans.span-index c.as_slice-span-items.result.now ≡ sorted = take_all c.spans.span-index c.as_slice-span-items.result.now (omega arith) ∙ c.as_slice-span-items.ensures.value in
    c.commit.ensures.committed k lt ∙ c.spans.invariant k lt
    ∙ ap (λ b. cond b c.args.value 0) (ap (list_any (within k)) all ∙ sym (list_any-IsPermutation (within k) given sorted c.sort_by_key.ensures.permutation))
