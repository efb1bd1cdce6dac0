use Rattle.std.proofs.Common.{sym, ap, ◌∙◌, length, arith}
use Rattle.source_rows.proofs.Words.{no_word, one_word, at_end}
use Rattle.source_rows.proofs.mapping.next_word.Goals as goal

pub returns-then-not-is_empty : goal.returns-then-not-is_empty
returns-then-not-is_empty c =
    sym c.words.invariant ∙ one_word c.words.rest.now c.cut_at_first_blank.result.0.now c.cut_at_first_blank.result.1.now c.cut_at_first_blank.ensures.before c.cut_at_first_blank.ensures.after (sym c.is_empty-in-words.ensures ∙ c.if-not-is_empty.true)

pub words-preserved : goal.words-preserved
words-preserved c =
    sym (no_word c.words.rest.now c.cut_at_first_blank.result.0.now c.cut_at_first_blank.result.1.now c.cut_at_first_blank.ensures.before c.cut_at_first_blank.ensures.after (sym c.is_empty-in-words.ensures ∙ c.if-not-is_empty.false)) ∙ c.words.invariant

pub unreachable-requires : goal.unreachable-requires
unreachable-requires c =
    let none = sym c.words.invariant ∙ at_end c.words.rest.now (sym c.is_empty.ensures ∙ c.words-test.false) in
    absurd (omega (arith, c.requires, ap length none))
