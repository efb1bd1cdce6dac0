use Rattle.std.proofs.Common.{◌≡◌, ℕ, false, take}
use Rattle.std.specs.List.{list_any}
use Rattle.ucd_facts.specs.Facts.{within}
use Rattle.code_facts.specs.MidWords.{gives_mid_word, is_missing_row_of_mid_word}
use Rattle.code_facts.proofs.mid_words.mid_words_without_missing.Given as goal

-- the spans of the rows before this one, none of which is a missing row with such a value
abbrev pub invariant-rows : goal.invariant-rows
invariant-rows l = record {
  spans : (c : ℕ) → list_any (within c) l.spans.items ≡ list_any (gives_mid_word c) (take l.text-index l.rows);
  missing : list_any is_missing_row_of_mid_word (take l.text-index l.rows) ≡ false;
}
