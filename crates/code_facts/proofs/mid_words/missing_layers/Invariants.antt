use Rattle.std.proofs.Common.{◌≡◌, ℕ, take}
use Rattle.layered_table.specs.Layers.{word_at}
use Rattle.ucd_facts.specs.Values.{default_word_break, is_mid_word, missing_value}
use Rattle.fact_tables.specs.Word.{one_if}
use Rattle.code_facts.proofs.mid_words.missing_layers.Given as goal

-- the layers of the missing rows before this one
abbrev pub invariant-rows : goal.invariant-rows
invariant-rows l = (c : ℕ) → word_at l.layers.items 0 c ≡ one_if (is_mid_word (missing_value (take l.text-index l.rows) default_word_break c))
