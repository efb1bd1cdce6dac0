use Rattle.std.proofs.Common.{◌≡◌, ℕ, true, take}
use Rattle.std.specs.List.{list_any}
use Rattle.range_table.specs.Values.{SameValues}
use Rattle.ucd_facts.specs.Facts.{within}
use Rattle.fact_tables.specs.Copying.{with_spans, IsListed}
use Rattle.fact_tables.specs.Index.{is_gathered}
use Rattle.fact_tables.specs.RowTables.{word_in, rest_in}
use Rattle.fact_tables.proofs.copying.copy_spans.Given as goal

-- the spans before this one are copied
abbrev pub invariant-spans : goal.invariant-spans
invariant-spans g l = record {
  words_now : SameValues (g.T.Table.now l.words) (g.T.Table.now l.initial.words);
  rests_now : SameValues (g.S.Store.now l.rests) (g.S.Store.now l.initial.rests);
  grows : (s y q : ℕ) → is_gathered l.initial.keys s y q ≡ true → is_gathered l.keys s y q ≡ true;
  words : SameValues (g.T.Table.next l.words) (with_spans (g.T.Table.next l.initial.words) (take l.span-index l.spans) (word_in l.from));
  rests : SameValues (g.S.Store.next l.rests) (with_spans (g.S.Store.next l.initial.rests) (take l.span-index l.spans) (rest_in l.from));
  listed : (q : ℕ) → list_any (within q) (take l.span-index l.spans) ≡ true → IsListed (is_gathered l.keys) l.from q;
}
