-- Rows are given exactly where the grammar reads them.
use Rattle.std.proofs.Common.{◌≡◌, ℕ, Bool, true, false, cond, List, ◌∷◌, ◌++◌, get_or, Ok, refl, ap, subst, ◌∙◌, inl, inr}
use Rattle.std.specs.List.{position_or_len, before_first, after_first}
use Rattle.std.proofs.lemmas.Bool.{eqb-true, or_right}
use Rattle.std.proofs.lemmas.List.Folds.{list_any-append}
use Rattle.std.proofs.lemmas.List.Sums.{split_at_first, passes_at_first}
use Rattle.ucd_points.specs.Lines.{is_lf, holds_line_feed, without_return}
use Rattle.ucd_points.specs.Fields.{fields}
use Rattle.ucd_points.specs.MissingLines.{missing_rest, is_missing}
use Rattle.ucd_facts.specs.Grammar.{ReadsLine, ReadsRange, IsRange, Reads}
use Rattle.ucd_points.specs.declared.files.SourceFile.TheVariants.{UnicodeData, PropList, Scripts, WordBreakProperty, CompositionExclusions, CaseFolding, SpecialCasing, PropertyAliases, PropertyValueAliases}
use Rattle.ucd_facts.specs.OtherLines.{ReadsValue}
use Rattle.ucd_facts.specs.declared.row.DataRow.{DataRow}
use Rattle.ucd_facts.specs.declared.row.ValueRow.{ValueRow}
use Rattle.ucd_facts.specs.declared.row.Row.TheVariants.{Unit as DataLine, Value as ValueLine, Exclusion as ExclusionLine, Fold as FoldLine, Casing as CasingLine, Alias as AliasLine, Missing as MissingLine}
use Rattle.source_rows.specs.Faults.{value_line, line_or_fault, lines_or_fault, row_or_fault, SourceFile, Row}
use Rattle.source_rows.specs.DataFaults.{pair_or_fault}
use Rattle.source_rows.specs.OtherFaults.{value_or_fault}
use Rattle.source_rows.specs.Steps.{and_then}
use Rattle.source_rows.specs.Laws.{RowsAreRead}
use Rattle.source_rows.specs.declared.fault.RowFault.TheVariants.{G03}
use Rattle.source_rows.proofs.Seams.{before_seam, after_seam, first_within, lacks_before}
use Rattle.source_rows.proofs.OtherGrammar.{value_read, value_given, IsExclusionOf, exclusion_read, exclusion_given, IsFoldOf, fold_read, fold_given, IsCasingOf, casing_read, casing_given, IsAliasOf, alias_read, alias_given}
use Rattle.source_rows.proofs.LineGrammar.{IsSingleOf, single_read, single_given, IsPairOf, pair_read, pair_given}
use Rattle.source_rows.proofs.Found.{failed, after}

-- ---- one line

-- the values of a line, whatever row is made of them
valued : (fs : List (List ℕ)) (line : ValueRow → Row) (row : Row) → and_then (value_or_fault fs) (λ v. Ok (line v)) ≡ Ok row → (v : ValueRow) × ReadsValue fs v × (line v ≡ row)
valued fs line row h =
    let a = after (value_or_fault fs) (λ v. Ok (line v)) row h in
    let same : line a.0 ≡ row = cc in
    (a.0, value_read fs a.0 a.1, same)

property_read : (bytes : List ℕ) (row : Row) → line_or_fault PropList bytes ≡ Ok row → ReadsLine PropList bytes row
unfolding missing_rest
property_read bytes row h = let v = valued (fields PropList bytes) ValueLine row h in subst (ReadsLine PropList bytes) v.2 v.1

property_given : (bytes : List ℕ) (row : ValueRow) → ReadsValue (fields PropList bytes) row → line_or_fault PropList bytes ≡ Ok (ValueLine row)
unfolding missing_rest
property_given bytes row r = rw (value_given (fields PropList bytes) row r) refl

script_read : (bytes : List ℕ) (v : ValueRow) (missing : Bool) → is_missing Scripts bytes ≡ missing → ReadsValue (fields Scripts bytes) v → ReadsLine Scripts bytes (cond missing (MissingLine v) (ValueLine v))
script_read bytes v true e r = (e, r)
script_read bytes v false e r = (e, r)

word_break_read : (bytes : List ℕ) (v : ValueRow) (missing : Bool) → is_missing WordBreakProperty bytes ≡ missing → ReadsValue (fields WordBreakProperty bytes) v → ReadsLine WordBreakProperty bytes (cond missing (MissingLine v) (ValueLine v))
word_break_read bytes v true e r = (e, r)
word_break_read bytes v false e r = (e, r)

line_read : (file : SourceFile) (bytes : List ℕ) (row : Row) → line_or_fault file bytes ≡ Ok row → ReadsLine file bytes row
line_read UnicodeData bytes row h = its bytes row (single_read (fields UnicodeData bytes) row h)
  where
    its : (bytes : List ℕ) (row : Row) → IsSingleOf (fields UnicodeData bytes) row → ReadsLine UnicodeData bytes row
    its bytes (DataLine row) r = r
    its bytes _ r = absurd r
line_read PropList bytes row h = property_read bytes row h
line_read Scripts bytes row h =
    let v = valued (fields Scripts bytes) (value_line Scripts bytes) row h in
    subst (ReadsLine Scripts bytes) v.2 (script_read bytes v.0 (is_missing Scripts bytes) refl v.1)
line_read WordBreakProperty bytes row h =
    let v = valued (fields WordBreakProperty bytes) (value_line WordBreakProperty bytes) row h in
    subst (ReadsLine WordBreakProperty bytes) v.2 (word_break_read bytes v.0 (is_missing WordBreakProperty bytes) refl v.1)
line_read CompositionExclusions bytes row h = its bytes row (exclusion_read (fields CompositionExclusions bytes) row h)
  where
    its : (bytes : List ℕ) (row : Row) → IsExclusionOf (fields CompositionExclusions bytes) row → ReadsLine CompositionExclusions bytes row
    its bytes (ExclusionLine row) r = r
    its bytes _ r = absurd r
line_read CaseFolding bytes row h = its bytes row (fold_read (fields CaseFolding bytes) row h)
  where
    its : (bytes : List ℕ) (row : Row) → IsFoldOf (fields CaseFolding bytes) row → ReadsLine CaseFolding bytes row
    its bytes (FoldLine row) r = r
    its bytes _ r = absurd r
line_read SpecialCasing bytes row h = its bytes row (casing_read (fields SpecialCasing bytes) row h)
  where
    its : (bytes : List ℕ) (row : Row) → IsCasingOf (fields SpecialCasing bytes) row → ReadsLine SpecialCasing bytes row
    its bytes (CasingLine row) r = r
    its bytes _ r = absurd r
line_read PropertyAliases bytes row h = its bytes row (alias_read 2 (fields PropertyAliases bytes) row h)
  where
    its : (bytes : List ℕ) (row : Row) → IsAliasOf 2 (fields PropertyAliases bytes) row → ReadsLine PropertyAliases bytes row
    its bytes (AliasLine row) r = r
    its bytes _ r = absurd r
line_read PropertyValueAliases bytes row h = its bytes row (alias_read 3 (fields PropertyValueAliases bytes) row h)
  where
    its : (bytes : List ℕ) (row : Row) → IsAliasOf 3 (fields PropertyValueAliases bytes) row → ReadsLine PropertyValueAliases bytes row
    its bytes (AliasLine row) r = r
    its bytes _ r = absurd r

line_given : (file : SourceFile) (bytes : List ℕ) (row : Row) → ReadsLine file bytes row → line_or_fault file bytes ≡ Ok row
line_given UnicodeData bytes (DataLine row) r = single_given (fields UnicodeData bytes) row r
line_given PropList bytes (ValueLine row) r = property_given bytes row r
line_given Scripts bytes (ValueLine row) r = rw (value_given (fields Scripts bytes) row r.1, r.0) refl
line_given Scripts bytes (MissingLine row) r = rw (value_given (fields Scripts bytes) row r.1, r.0) refl
line_given WordBreakProperty bytes (ValueLine row) r = rw (value_given (fields WordBreakProperty bytes) row r.1, r.0) refl
line_given WordBreakProperty bytes (MissingLine row) r = rw (value_given (fields WordBreakProperty bytes) row r.1, r.0) refl
line_given CompositionExclusions bytes (ExclusionLine row) r = exclusion_given (fields CompositionExclusions bytes) row r
line_given CaseFolding bytes (FoldLine row) r = fold_given (fields CaseFolding bytes) row r
line_given SpecialCasing bytes (CasingLine row) r = casing_given (fields SpecialCasing bytes) row r
line_given PropertyAliases bytes (AliasLine row) r = alias_given 2 (fields PropertyAliases bytes) row r
line_given PropertyValueAliases bytes (AliasLine row) r = alias_given 3 (fields PropertyValueAliases bytes) row r
line_given _ bytes _ r = absurd r

-- ---- two lines

feed_splits : (bytes : List ℕ) → holds_line_feed bytes ≡ true → bytes ≡ before_first is_lf bytes ++ 10 ∷ after_first is_lf bytes
feed_splits bytes h =
    let lt = first_within is_lf bytes h in
    let lf : get_or bytes (position_or_len is_lf bytes) 0 ≡ 10 = eqb-true _ _ (passes_at_first is_lf bytes 0 lt) in
    split_at_first is_lf bytes 0 lt ∙ ap (λ (b : ℕ). before_first is_lf bytes ++ b ∷ after_first is_lf bytes) lf

range_read : (bytes : List ℕ) (row : Row) → holds_line_feed bytes ≡ true → lines_or_fault UnicodeData (before_first is_lf bytes) (after_first is_lf bytes) ≡ Ok row → IsRange UnicodeData bytes row
range_read bytes row feed h =
    let a = failed (holds_line_feed (after_first is_lf bytes)) (pair_or_fault (fields UnicodeData (without_return (before_first is_lf bytes))) (fields UnicodeData (after_first is_lf bytes))) G03 row h in
    its bytes row feed a.0 (pair_read (fields UnicodeData (without_return (before_first is_lf bytes))) (fields UnicodeData (after_first is_lf bytes)) row a.1)
  where
    its : (bytes : List ℕ) (row : Row) → holds_line_feed bytes ≡ true → holds_line_feed (after_first is_lf bytes) ≡ false → IsPairOf (fields UnicodeData (without_return (before_first is_lf bytes))) (fields UnicodeData (after_first is_lf bytes)) row → IsRange UnicodeData bytes row
    its bytes (DataLine row) feed other r = record { front = before_first is_lf bytes; last = after_first is_lf bytes; lines = feed_splits bytes feed; one_line = lacks_before is_lf bytes; other_line = other; pair = r }
    its bytes _ feed other r = absurd r

other_range : (file : SourceFile) (bytes : List ℕ) (row : Row) → holds_line_feed bytes ≡ true → lines_or_fault file (before_first is_lf bytes) (after_first is_lf bytes) ≡ Ok row → IsRange file bytes row
other_range UnicodeData bytes row feed h = range_read bytes row feed h
other_range _ bytes row feed h = absurd cc

pub has_feed : (front last : List ℕ) → holds_line_feed (front ++ 10 ∷ last) ≡ true
has_feed front last = list_any-append is_lf front (10 ∷ last) ∙ or_right (holds_line_feed front) (holds_line_feed (10 ∷ last)) refl

range_given : (bytes : List ℕ) (row : DataRow) → ReadsRange bytes row → row_or_fault UnicodeData bytes ≡ Ok (DataLine row)
unfolding row_or_fault
range_given bytes row r =
    rw (r.lines, has_feed r.front r.last, before_seam is_lf r.front 10 r.last r.one_line refl, after_seam is_lf r.front 10 r.last r.one_line refl, r.other_line) (pair_given (fields UnicodeData (without_return r.front)) (fields UnicodeData r.last) row r.pair)

some_range : (file : SourceFile) (bytes : List ℕ) (row : Row) → IsRange file bytes row → row_or_fault file bytes ≡ Ok row
some_range UnicodeData bytes (DataLine row) r = range_given bytes row r
some_range UnicodeData bytes _ r = absurd r
some_range _ bytes row r = absurd r

-- ---- both

either_read : (feed : Bool) (file : SourceFile) (bytes : List ℕ) (row : Row) → holds_line_feed bytes ≡ feed → cond feed (lines_or_fault file (before_first is_lf bytes) (after_first is_lf bytes)) (line_or_fault file bytes) ≡ Ok row → Reads file bytes row
either_read true file bytes row e h = inr (other_range file bytes row e h)
either_read false file bytes row e h = inl (e, line_read file bytes row h)

row_read : (file : SourceFile) (bytes : List ℕ) (row : Row) → row_or_fault file bytes ≡ Ok row → Reads file bytes row
unfolding row_or_fault
row_read file bytes row h = either_read (holds_line_feed bytes) file bytes row refl h

row_given : (file : SourceFile) (bytes : List ℕ) (row : Row) → Reads file bytes row → row_or_fault file bytes ≡ Ok row
unfolding row_or_fault
row_given file bytes row (inl line) = rw line.0 (line_given file bytes row line.1)
row_given file bytes row (inr range) = some_range file bytes row range

pub rows_are_read : RowsAreRead
rows_are_read file bytes row = (row_read file bytes row, row_given file bytes row)
