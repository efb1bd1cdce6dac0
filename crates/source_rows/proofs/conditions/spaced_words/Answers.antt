use Rattle.std.proofs.Common.{List, ℕ, sym, ap, ◌∙◌}
use Rattle.ucd_facts.specs.Mappings.{words}
use Rattle.source_rows.proofs.Words.{no_word, one_word, at_end}
use Rattle.source_rows.proofs.Spaced.{behind_words, words_onto, all_behind}
use Rattle.source_rows.proofs.conditions.spaced_words.Goals as goal

pub words-preserved-then-is_empty : goal.words-preserved-then-is_empty
words-preserved-then-is_empty c =
    let e = no_word c.words.rest.now c.cut_at_first_blank.result.0.now c.cut_at_first_blank.result.1.now c.cut_at_first_blank.ensures.before c.cut_at_first_blank.ensures.after (sym c.is_empty-in-words.ensures ∙ c.if-is_empty.true) in
    ap (λ (ws : List (List ℕ)). behind_words c.words.spaced ws) (sym e) ∙ c.words.invariant

pub words-preserved : goal.words-preserved
words-preserved c =
    let e = one_word c.words.rest.now c.cut_at_first_blank.result.0.now c.cut_at_first_blank.result.1.now c.cut_at_first_blank.ensures.before c.cut_at_first_blank.ensures.after (sym c.is_empty-in-words.ensures ∙ c.if-is_empty.false) in
    ap (λ (done : List ℕ). behind_words done (words c.cut_at_first_blank.result.1.now)) c.in_ok-put_word.ensures ∙ sym (words_onto c.words.spaced c.cut_at_first_blank.result.0.now (words c.cut_at_first_blank.result.1.now)) ∙ ap (λ (ws : List (List ℕ)). behind_words c.words.spaced ws) (sym e) ∙ c.words.invariant

pub returns : goal.returns
returns c =
    let e = at_end c.words.rest.now (sym c.is_empty.ensures ∙ c.words-test.false) in
    ap (λ (ws : List (List ℕ)). behind_words c.words.spaced ws) (sym e) ∙ c.words.invariant ∙ all_behind c.args.text.now
