use Rattle.std.proofs.Common.{◌≡◌, ◌+◌, length, ap, ◌∙◌, arith}
use Rattle.std.proofs.lemmas.Bool.Decides.{nat_tests}
use Rattle.std.specs.List.{list_any}
use Rattle.std.proofs.lemmas.Result.{IfOk-weaker}
use Rattle.ucd_facts.specs.Facts.{within}
use Rattle.range_table.specs.RunTable.{values_now}
use Rattle.code_facts.proofs.MarkLemmas.{bit_of, no_bit, cond_small}
use Rattle.code_facts.proofs.marks.with_mark.Goals as goal

pub returns-then-is_empty : goal.returns-then-is_empty
returns-then-is_empty c = λ sources keeps k lt.
    let none : length c.in_ok-spans.spans.items ≡ 0 = grind (arith, nat_tests, c.is_empty.ensures, c.if-is_empty.true) in
    omega (arith, no_bit c.in_ok-spans.spans.items c.args.mark sources k lt (c.in_ok-spans.ensures sources keeps) none)

pub sum_of_tables-requires : goal.sum_of_tables-requires
sum_of_tables-requires c k lt =
    omega (arith, c.requires k lt, c.in_ok-one.ensures k lt, cond_small (list_any (within k) c.in_ok-spans.spans.items) c.word_bit.result, c.word_bit.ensures.below)

pub returns : goal.returns
returns c = λ sources keeps.
    IfOk-weaker c.sum_of_tables.result _ _ (λ sum h k lt.
    h k lt ∙ ap (λ n. values_now c.args.table k + n) (c.in_ok-one.ensures k lt ∙ bit_of c.in_ok-spans.spans.items c.args.mark sources k c.word_bit.result lt (c.in_ok-spans.ensures sources keeps) c.word_bit.ensures.value)) c.sum_of_tables.ensures
