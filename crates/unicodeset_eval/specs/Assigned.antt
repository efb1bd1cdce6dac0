-- Which code points are assigned.
-- AssignedHaveCategories rows   a row of UnicodeData.txt covers c exactly where the category of c is not Cn
-- assigned_have_categories      so it is of rows that are kept
use Rattle.std.proofs.Common.{◌≡◌, ◌≢◌, ℕ, ◌<◌, Bool, true, false, not, ◌==◌, List, [], ◌∷◌, ◌++◌, Option, Some, None, Ok, is_some, find, cond, refl, sym, ap, ◌∙◌, slice_get, All, eqb-true}
use Rattle.std.proofs.lemmas.List.Elements.{All-cons, All-head, All-nil, All-tail}
use Rattle.release_rows.specs.FileLemmas.{row_ok}
use Rattle.ucd_facts.specs.EnumerationProofs.{enumerates_categories}
use Rattle.ucd_facts.specs.Enumerations.{categories}
use Rattle.ucd_facts.specs.Facts.{Sources, facts, data_row, data_in, is_data_of, category_in}
use Rattle.ucd_facts.specs.FactsLemmas.{facts_inside}
use Rattle.ucd_points.specs.Limits.{point_count}
use Rattle.ucd_facts.specs.Predicates.{category_place}
use Rattle.ucd_facts.specs.RowValues.{RowOk, DataOk}
use Rattle.ucd_facts.specs.declared.category.Category.{Category}
use Rattle.ucd_facts.specs.declared.category.Category.TheVariants.{Cn}
use Rattle.ucd_points.specs.declared.files.SourceFile.TheVariants.{UnicodeData}
use Rattle.ucd_facts.specs.declared.row.DataRow.{DataRow}
use Rattle.ucd_facts.specs.declared.row.Row.TheVariants.{Unit as DataLine, Value as ValueLine, Exclusion as ExclusionLine, Fold as FoldLine, Casing as CasingLine, Alias as AliasLine, Missing as MissingLine}
use Rattle.source_rows.specs.Laws.{PossibleRowsAreReadable, RowsAreRead}
use Rattle.release_rows.specs.FileItems.{FileItem, onto_rows, rows_in, Row}
use Rattle.release_rows.specs.Loading.{content_row}
use Rattle.release_rows.specs.Releases.{AreKept, AreKeptBelow}

abbrev pub AssignedHaveCategories : Sources → Type 0
AssignedHaveCategories rows = (c : ℕ) → c < point_count → is_some (data_row (rows UnicodeData) c) ≡ not (category_place (facts rows c).category == category_place Cn)

-- ---- rows that are kept

module _ (read : RowsAreRead) (ok : PossibleRowsAreReadable) where
  rows_ok : (above items : List FileItem) → AreKeptBelow UnicodeData above items → All (RowOk UnicodeData) (rows_in items)
  rows_ok above [] kept = All-nil (RowOk UnicodeData)
  rows_ok above (item ∷ items) kept = by item.row kept.0.is_read (rows_ok (above ++ item ∷ []) items kept.1)
    where
      by : (row : Option Row) → content_row UnicodeData item.content ≡ Ok row → All (RowOk UnicodeData) (rows_in items) → All (RowOk UnicodeData) (onto_rows row (rows_in items))
      by None e rest = rest
      by (Some row) e rest = All-cons (RowOk UnicodeData) row (rows_in items) (row_ok read ok UnicodeData item.content row e) rest

-- ---- the category of a row

not_cn : (k : Category) → k ≢ Cn → not (category_place k == category_place Cn) ≡ true
not_cn k other = by (category_place k == category_place Cn) refl
  where
    one : (x y : Category) → Some x ≡ Some y → x ≡ y
    one x y e = cc

    by : (b : Bool) → (category_place k == category_place Cn) ≡ b → not b ≡ true
    by true e = absurd (other (one k Cn (sym (enumerates_categories.each k) ∙ ap (slice_get categories) (eqb-true (category_place k) (category_place Cn) e) ∙ enumerates_categories.each Cn)))
    by false e = refl

assigned_in : (c : ℕ) (rows : List Row) → All (RowOk UnicodeData) rows → is_some (data_row rows c) ≡ not (category_place (category_in (data_row rows c)) == category_place Cn)
assigned_in c [] ok = refl
assigned_in c (DataLine row ∷ rows) ok = by (is_data_of c (DataLine row)) (assigned_in c rows (All-tail (RowOk UnicodeData) (DataLine row) rows ok))
  where
    here : DataOk row
    here = All-head (RowOk UnicodeData) (DataLine row) rows ok

    found : Bool → Option DataRow
    found t = data_in (cond t (Some (DataLine row)) (find (is_data_of c) rows))

    by : (t : Bool) → is_some (data_row rows c) ≡ not (category_place (category_in (data_row rows c)) == category_place Cn) → is_some (found t) ≡ not (category_place (category_in (found t)) == category_place Cn)
    by true later = sym (not_cn row.category here.category)
    by false later = later
assigned_in c (ValueLine row ∷ rows) ok = assigned_in c rows (All-tail (RowOk UnicodeData) (ValueLine row) rows ok)
assigned_in c (ExclusionLine row ∷ rows) ok = assigned_in c rows (All-tail (RowOk UnicodeData) (ExclusionLine row) rows ok)
assigned_in c (FoldLine row ∷ rows) ok = assigned_in c rows (All-tail (RowOk UnicodeData) (FoldLine row) rows ok)
assigned_in c (CasingLine row ∷ rows) ok = assigned_in c rows (All-tail (RowOk UnicodeData) (CasingLine row) rows ok)
assigned_in c (AliasLine row ∷ rows) ok = assigned_in c rows (All-tail (RowOk UnicodeData) (AliasLine row) rows ok)
assigned_in c (MissingLine row ∷ rows) ok = assigned_in c rows (All-tail (RowOk UnicodeData) (MissingLine row) rows ok)

pub assigned_have_categories : (rows : Sources) (items : List FileItem) → rows UnicodeData ≡ rows_in items → RowsAreRead → PossibleRowsAreReadable → AreKept UnicodeData items → AssignedHaveCategories rows
assigned_have_categories rows items same read ok kept c lt =
    let all : All (RowOk UnicodeData) (rows UnicodeData) = rw same (rows_ok read ok [] items kept) in
    assigned_in c (rows UnicodeData) all ∙ ap (λ G. not (category_place G.category == category_place Cn)) (sym (facts_inside rows c lt))
