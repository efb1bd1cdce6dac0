use Rattle.std.proofs.Common.{◌≡◌, take, sym, ap, ◌∙◌, arith}
use Rattle.std.specs.List.{list_any}
use Rattle.std.proofs.lemmas.List.{take_all}
use Rattle.code_facts.specs.MidWords.{gives_mid_word, is_missing_row_of_mid_word}
use Rattle.code_facts.proofs.MidWordLemmas.{plain_is}
use Rattle.code_facts.proofs.mid_words.mid_words_without_missing.Goals as goal

pub returns : goal.returns
returns c = λ k.
    let rows = c.args.rows.now in
    let all : take c.rows.text-index rows ≡ rows = take_all c.rows.text-index rows (omega arith) in
    c.rows.invariant.spans k ∙ ap (list_any (gives_mid_word k)) all ∙ plain_is k rows (c.requires k) (sym (ap (list_any is_missing_row_of_mid_word) all) ∙ c.rows.invariant.missing)
