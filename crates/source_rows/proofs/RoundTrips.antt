-- The text of a row that the file can have is read as that row.
use Rattle.std.proofs.Common.{◌≡◌, true, false, is_some, refl, ap, inl, arith}
use Rattle.ucd_points.specs.Fields.{fields}
use Rattle.ucd_points.specs.MissingLines.{takes_missing, missing_rest, is_missing}
use Rattle.ucd_facts.specs.Grammar.{Reads}
use Rattle.ucd_facts.specs.OtherLines.{ReadsValue}
use Rattle.ucd_facts.specs.RowTexts.{value_text, missing_text, row_text}
use Rattle.ucd_facts.specs.RowValues.{ValueOk, RowOk}
use Rattle.ucd_points.specs.declared.files.SourceFile.{SourceFile}
use Rattle.ucd_points.specs.declared.files.SourceFile.TheVariants.{UnicodeData, PropList, Scripts, WordBreakProperty, CompositionExclusions, CaseFolding, SpecialCasing, PropertyAliases, PropertyValueAliases}
use Rattle.ucd_facts.specs.declared.row.ValueRow.{ValueRow}
use Rattle.ucd_facts.specs.declared.row.Row.{Row}
use Rattle.ucd_facts.specs.declared.row.Row.TheVariants.{Unit as DataLine, Value as ValueLine, Exclusion as ExclusionLine, Fold as FoldLine, Casing as CasingLine, Alias as AliasLine, Missing as MissingLine}
use Rattle.source_rows.specs.Fields.{row_fields}
use Rattle.source_rows.specs.Laws.{TextsReadBack}
use Rattle.source_rows.proofs.MissingLines.{no_rest, written}
use Rattle.source_rows.proofs.Grammar.{rows_are_read}
use Rattle.source_rows.proofs.DataTexts.{data_reads}
use Rattle.source_rows.proofs.OtherTexts.{value_reads, missing_behind, missing_reads, exclusion_reads, fold_reads, casing_reads, alias_reads}

-- an ordinary row, whose line has no `#`
plain_reads : (file : SourceFile) (row : ValueRow) → ValueOk row → (is_missing file (value_text row) ≡ false) × ReadsValue (row_fields file (value_text row)) row
plain_reads file row ok =
    let line = value_reads row ok in
    let none = no_rest file (value_text row) line.no_hash in
    (ap is_some none, rw none line.reads)

marked_reads : (file : SourceFile) (row : ValueRow) → takes_missing file ≡ true → ValueOk row → (is_missing file (missing_text row) ≡ true) × ReadsValue (row_fields file (missing_text row)) row
marked_reads file row takes ok =
    let some = written file (missing_behind row) takes in
    (ap is_some some, rw some (missing_reads row ok).reads)

pub text_reads : (file : SourceFile) (row : Row) → RowOk file row → Reads file (row_text file row) row
unfolding fields missing_rest
text_reads UnicodeData (DataLine row) ok = data_reads row ok
text_reads PropList (ValueLine row) ok = let line = value_reads row ok in inl (line.no_feed, line.reads)
text_reads Scripts (ValueLine row) ok = inl ((value_reads row ok).no_feed, plain_reads Scripts row ok)
text_reads Scripts (MissingLine row) ok = inl ((missing_reads row ok).no_feed, marked_reads Scripts row refl ok)
text_reads WordBreakProperty (ValueLine row) ok = inl ((value_reads row ok).no_feed, plain_reads WordBreakProperty row ok)
text_reads WordBreakProperty (MissingLine row) ok = inl ((missing_reads row ok).no_feed, marked_reads WordBreakProperty row refl ok)
text_reads CompositionExclusions (ExclusionLine row) ok = let line = exclusion_reads row ok in inl (line.no_feed, line.reads)
text_reads CaseFolding (FoldLine row) ok = let line = fold_reads row ok in inl (line.no_feed, line.reads)
text_reads SpecialCasing (CasingLine row) ok = let line = casing_reads row ok in inl (line.no_feed, line.reads)
text_reads PropertyAliases (AliasLine row) ok = let line = alias_reads 2 row (omega arith) ok in inl (line.no_feed, line.reads)
text_reads PropertyValueAliases (AliasLine row) ok = let line = alias_reads 3 row (omega arith) ok in inl (line.no_feed, line.reads)
text_reads _ _ ok = absurd ok

pub texts_read_back : TextsReadBack
texts_read_back file row ok = (rows_are_read file (row_text file row) row).1 (text_reads file row ok)
