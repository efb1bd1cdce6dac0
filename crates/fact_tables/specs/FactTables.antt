-- The facts of tables.
--
-- words_at version t   the word of each code point, now or next
-- rests_at version t   the rest of each code point, now or next
-- facts_at version t   the facts of all numbers, now or next
-- tables_facts now t   the facts of all numbers that the tables keep now
-- tables_next now t    those that they keep next
-- mappings_kept t      how many rests are held beside the one of the code points that have none
--
-- The tables of words and of places have the ghosts d; now, that of a table of words, names them in clauses.
use Rattle.std.specs.Prelude.{ℕ}
use Rattle.ucd_facts.specs.Facts.{Facts}
use Rattle.range_table.specs.declared.table.Table.{Ghosts}
use Rattle.point_store.specs.SlotStore.{held_count, values}
use Rattle.fact_tables.specs.KeptFacts.{all_kept}
use Rattle.fact_tables.specs.Rest.{RestOf}
use Rattle.fact_tables.specs.declared.fact_tables.FactTables.{FactTables}
use Rattle.fact_tables.specs.declared.now_or_next.NowOrNext.{NowOrNext}
use Rattle.fact_tables.specs.declared.now_or_next.NowOrNext.TheVariants.{Now, Next}

abbrev pub words_at : {T : Type 0} {d : Ghosts T ℕ} → NowOrNext → FactTables T d → ℕ → ℕ
words_at {T} {d} Now t = d.now t.words
words_at {T} {d} Next t = d.next t.words

abbrev pub rests_at : {T : Type 0} {d : Ghosts T ℕ} → NowOrNext → FactTables T d → ℕ → RestOf
rests_at {T} {d} Now t = values d.now t.rests
rests_at {T} {d} Next t = values d.next t.rests

abbrev pub facts_at : {T : Type 0} {d : Ghosts T ℕ} → NowOrNext → FactTables T d → ℕ → Facts
facts_at version t = all_kept (words_at version t) (rests_at version t)

abbrev pub tables_facts : {T : Type 0} {d : Ghosts T ℕ} → (T → ℕ → ℕ) → FactTables T d → ℕ → Facts
tables_facts now t = facts_at Now t

abbrev pub tables_next : {T : Type 0} {d : Ghosts T ℕ} → (T → ℕ → ℕ) → FactTables T d → ℕ → Facts
tables_next now t = facts_at Next t

abbrev pub mappings_kept : {T : Type 0} {d : Ghosts T ℕ} → FactTables T d → ℕ
mappings_kept t = held_count t.rests
