-- What the row of an entry speaks of.
use Rattle.std.proofs.Common.{◌≡◌, ℕ, ◌<◌, ◌≤◌, Bool, true, false, List, [], ◌∷◌, Option, Some, None, is_some, refl, arith}
use Rattle.ucd_points.specs.Bounds.{Bounds}
use Rattle.ucd_facts.specs.RowValues.{RowOk}
use Rattle.ucd_points.specs.declared.files.SourceFile.TheVariants.{UnicodeData, PropList, Scripts, WordBreakProperty, CompositionExclusions, CaseFolding, SpecialCasing, PropertyAliases, PropertyValueAliases}
use Rattle.ucd_facts.specs.declared.row.Row.TheVariants.{Unit as DataLine, Value as ValueLine, Exclusion as ExclusionLine, Fold as FoldLine, Casing as CasingLine, Alias as AliasLine, Missing as MissingLine}
use Rattle.source_rows.specs.KeyNames.{has_code}
use Rattle.source_rows.specs.Keys.{row_span}
use Rattle.source_rows.specs.Laws.{PossibleRowsAreReadable, RowsAreRead}
use Rattle.part_list.specs.declared.entry.Entry.{Entry}
use Rattle.release_rows.specs.Operations.{row_passes, row_spans, spans_of}
use Rattle.release_rows.specs.FileItems.{FileItem, SourceFile, Row}
use Rattle.release_rows.specs.StoredItems.{HasSpan, IsStored, content_at, item_at}
use Rattle.release_rows.specs.declared.stored_item.StoredItem.{StoredItem}
use Rattle.release_rows.proofs.Seeking.{StoredAs, stored_as}

abbrev Spans : ℕ → ℕ → List Bounds → Type 0
Spans lo hi spans = (lo ≤ hi) × (hi < 1114112) × (spans ≡ record { lo = lo; hi = hi } ∷ [])

code_spans : (file : SourceFile) (row : Row) → RowOk file row → has_code file ≡ true → Spans (row_span row).lo (row_span row).hi (row_spans row)
code_spans UnicodeData (DataLine row) ok h = (ok.span.0, ok.span.1, refl)
code_spans UnicodeData _ ok h = absurd ok
code_spans PropList (ValueLine row) ok h = (ok.span.0, ok.span.1, refl)
code_spans PropList _ ok h = absurd ok
code_spans Scripts (ValueLine row) ok h = (ok.span.0, ok.span.1, refl)
code_spans Scripts (MissingLine row) ok h = (ok.span.0, ok.span.1, refl)
code_spans Scripts _ ok h = absurd ok
code_spans WordBreakProperty (ValueLine row) ok h = (ok.span.0, ok.span.1, refl)
code_spans WordBreakProperty (MissingLine row) ok h = (ok.span.0, ok.span.1, refl)
code_spans WordBreakProperty _ ok h = absurd ok
code_spans CompositionExclusions (ExclusionLine row) ok h = (ok.0, ok.1, refl)
code_spans CompositionExclusions _ ok h = absurd ok
code_spans CaseFolding (FoldLine row) ok h = (omega arith, ok.code, refl)
code_spans CaseFolding _ ok h = absurd ok
code_spans SpecialCasing (CasingLine row) ok h = (omega arith, ok.code, refl)
code_spans SpecialCasing _ ok h = absurd ok
code_spans PropertyAliases row ok h = absurd cc
code_spans PropertyValueAliases row ok h = absurd cc

no_spans : (file : SourceFile) (row : Row) → RowOk file row → has_code file ≡ false → row_spans row ≡ []
no_spans PropertyAliases (AliasLine row) ok h = refl
no_spans PropertyAliases _ ok h = absurd ok
no_spans PropertyValueAliases (AliasLine row) ok h = refl
no_spans PropertyValueAliases _ ok h = absurd ok
no_spans UnicodeData row ok h = absurd cc
no_spans PropList row ok h = absurd cc
no_spans Scripts row ok h = absurd cc
no_spans WordBreakProperty row ok h = absurd cc
no_spans CompositionExclusions row ok h = absurd cc
no_spans CaseFolding row ok h = absurd cc
no_spans SpecialCasing row ok h = absurd cc

row_ok : (file : SourceFile) (content : List ℕ) (row : Row) → RowsAreRead → PossibleRowsAreReadable → StoredAs file content (Some row) → RowOk file row
row_ok file content row read ok st = (ok file row).1 (content, (read file content row).0 st.1)

spans_by : (file : SourceFile) (content : List ℕ) (code last : ℕ) (o : Option Row) → RowsAreRead → PossibleRowsAreReadable → StoredAs file content o → HasSpan o code last → is_some o ≡ true → has_code file ≡ true → Spans code last (spans_of o)
spans_by file content code last None read ok st span some h = absurd cc
spans_by file content code last (Some row) read ok st span some h = rw (span.0, span.1) (code_spans file row (row_ok file content row read ok st) h)

none_by : (file : SourceFile) (content : List ℕ) (o : Option Row) → RowsAreRead → PossibleRowsAreReadable → StoredAs file content o → is_some o ≡ true → has_code file ≡ false → spans_of o ≡ []
none_by file content None read ok st some h = absurd cc
none_by file content (Some row) read ok st some h = no_spans file row (row_ok file content row read ok st) h

pub stored_spans : (file : SourceFile) (text : List ℕ) (e : Entry StoredItem) → RowsAreRead → PossibleRowsAreReadable → IsStored file text e → is_some (item_at file text e.item).row ≡ true → has_code file ≡ true → Spans e.code e.last (spans_of (item_at file text e.item).row)
stored_spans file text e read ok h some code = spans_by file (content_at text e.item) e.code e.last (item_at file text e.item).row read ok (stored_as file text e h) h.span some code

pub stored_no_spans : (file : SourceFile) (text : List ℕ) (e : Entry StoredItem) → RowsAreRead → PossibleRowsAreReadable → IsStored file text e → is_some (item_at file text e.item).row ≡ true → has_code file ≡ false → spans_of (item_at file text e.item).row ≡ []
stored_no_spans file text e read ok h some code = none_by file (content_at text e.item) (item_at file text e.item).row read ok (stored_as file text e h) some code

pub has_row : (p : Row → Bool) (item : FileItem) → row_passes p item ≡ true → is_some item.row ≡ true
has_row p item h = by item.row refl
  where
    by : (o : Option Row) → item.row ≡ o → is_some item.row ≡ true
    by None e = absurd (let k = (rw e at h) in cc)
    by (Some r) e = rw e refl
