-- Words that are given span by span.
--
-- word_over words given c   the word that is given to c, where its span covers c; else the word that c has
-- over_last words last c     the word of the last span, where there is one and it covers c; else the word that c has
-- words_next runs c         the word of c: that of the last span, where it covers c; else that of the table
use Rattle.std.specs.Prelude.{ℕ, Option, Some, None}
use Rattle.range_table.specs.RunTable.{values_next}
use Rattle.range_table.specs.Values.{with_span}
use Rattle.fact_tables.specs.declared.word_runs.WordRuns.{WordRuns}
use Rattle.fact_tables.specs.declared.word_runs.WordSpan.{WordSpan}

abbrev pub word_over : (ℕ → ℕ) → WordSpan → ℕ → ℕ
word_over words given c = with_span words given.span.lo given.span.hi given.word c

abbrev pub over_last : (ℕ → ℕ) → Option WordSpan → ℕ → ℕ
over_last words (Some last) c = word_over words last c
over_last words None c = words c

abbrev pub words_next : WordRuns → ℕ → ℕ
words_next runs c = over_last (values_next runs.table) runs.last c
