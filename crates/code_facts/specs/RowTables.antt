-- Tables that show what rows give.
--
-- ShowsRows t rows c  the facts of c that the tables keep are those that the rows give, and the word is their packed word
use Rattle.std.specs.Prelude.{◌≡◌, ℕ}
use Rattle.ucd_facts.specs.Facts.{Sources, given}
use Rattle.fact_tables.specs.RowTables.{made_facts, word_in}
use Rattle.fact_tables.specs.Word.{packed}
use Rattle.fact_tables.specs.declared.row_tables.RowTables.{RowTables}

pub record ShowsRows (t : RowTables) (rows : Sources) (c : ℕ) : Type 0 where
  pub facts : made_facts t c ≡ given rows c
  pub word : word_in t c ≡ packed (given rows c)
