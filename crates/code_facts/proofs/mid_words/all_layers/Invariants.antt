use Rattle.std.proofs.Common.{◌≡◌, ◌≤◌, ℕ, drop, find, length}
use Rattle.layered_table.specs.Layers.{word_at}
use Rattle.ucd_facts.specs.Values.{default_word_break, gives_some, is_mid_word, missing_value, value_in}
use Rattle.fact_tables.specs.Word.{one_if}
use Rattle.code_facts.proofs.mid_words.all_layers.Given as goal

-- the layers of the missing rows, and of the other rows from this one on
abbrev pub invariant-rows : goal.invariant-rows
invariant-rows l = record {
  within : l.at ≤ length l.rows;
  layers : (c : ℕ) → word_at l.layers.items 0 c ≡ one_if (is_mid_word (value_in (missing_value l.rows default_word_break c) (find (gives_some c) (drop l.at l.rows))));
}

abbrev pub decreases-rows : goal.decreases-rows
decreases-rows l = l.at
