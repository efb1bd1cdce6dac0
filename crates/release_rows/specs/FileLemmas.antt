-- Lemmas of files and their items.
-- each_with_items             what holds of each file's items, and of the new ones of a file, holds of each file's once they are
--                             there
-- items_at-with_items_same    the file in which the items were put has them
-- items_at-with_items_other   the other files keep theirs
-- rows_of_numbered            without their lines, numbered rows are the rows
-- numbered_one                the same of one item before others of which it holds
-- row_ok                      the row that a content stands for keeps what is said of the rows of its file
use Rattle.std.proofs.Common.{◌≡◌, ◌≢◌, ℕ, ◌+◌, List, [], ◌∷◌, map, Option, Some, None, length, refl, sym, ap, subst, ◌∙◌, inl, inr, arith, get_or-set_same, get_or-set_other, Bool, true, false, Result, Ok, Err}
use Rattle.release_rows.specs.FileItems.{FileItem, rows_in, onto_rows, SourceFile, Row}
use Rattle.release_rows.specs.Releases.{items_at, with_items, numbered_rows, onto_numbered}
use Rattle.ucd_points.specs.SourceFiles.{file_at, file_at-place, file_place, file_place_small}
use Rattle.std.proofs.lemmas.Bool.{cases_eq}
use Rattle.release_rows.specs.Loading.{content_row}
use Rattle.source_rows.specs.declared.fault.RowFault.{RowFault}
use Rattle.source_rows.specs.Laws.{PossibleRowsAreReadable, RowsAreRead}
use Rattle.source_rows.specs.Faults.{row_or_fault}
use Rattle.ucd_facts.specs.RowValues.{RowOk}
use Rattle.ucd_points.specs.MissingLines.{is_trivia}

pub items_at-with_items_same : (files : List (List FileItem)) (file : SourceFile) (items : List FileItem) → length files ≡ 9 → items_at (with_items files file items) file ≡ items
items_at-with_items_same files file items nine = get_or-set_same files (file_place file) items [] (omega (arith, nine, file_place_small file))

-- two files at one place are one file
same_file : (file other : SourceFile) → file_place other ≡ file_place file → other ≡ file
same_file file other same = sym (file_at-place other) ∙ ap file_at same ∙ file_at-place file

pub each_with_items : (P : SourceFile → List FileItem → Type 0) (files : List (List FileItem)) (file : SourceFile) (items : List FileItem) → length files ≡ 9 → ((other : SourceFile) → P other (items_at files other)) → P file items → (other : SourceFile) → P other (items_at (with_items files file items) other)
each_with_items P files file items nine all new other = elim (cases_eq (file_place other) (file_place file)) [
  | inl same ↦ subst (λ (f : SourceFile). P f (items_at (with_items files file items) f)) (sym (same_file file other same)) (subst (P file) (sym (items_at-with_items_same files file items nine)) new)
  | inr apart ↦ subst (P other) (sym (get_or-set_other files (file_place file) (file_place other) items [] apart)) (all other)
]

-- the other files keep their items
pub items_at-with_items_other : (files : List (List FileItem)) (file other : SourceFile) (items : List FileItem) → other ≢ file → items_at (with_items files file items) other ≡ items_at files other
items_at-with_items_other files file other items apart = get_or-set_other files (file_place file) (file_place other) items [] (λ same. apart (same_file file other same))

-- ---- rows with their lines

numbered_one : (line : ℕ) (row : Option Row) (items : List FileItem) (more : ℕ) → map (λ (n : ℕ × Row). n.1) (numbered_rows more items) ≡ rows_in items → map (λ (n : ℕ × Row). n.1) (onto_numbered line row (numbered_rows more items)) ≡ onto_rows row (rows_in items)
numbered_one line None items more e = e
numbered_one line (Some row) items more e = ap (λ (rows : List Row). row ∷ rows) e

pub rows_of_numbered : (line : ℕ) (items : List FileItem) → map (λ (n : ℕ × Row). n.1) (numbered_rows line items) ≡ rows_in items
rows_of_numbered line [] = refl
rows_of_numbered line (item ∷ items) = numbered_one line item.row items (line + item.lines) (rows_of_numbered (line + item.lines) items)

-- ---- rows that are kept

pub row_ok : RowsAreRead → PossibleRowsAreReadable → (file : SourceFile) (content : List ℕ) (row : Row) → content_row file content ≡ Ok (Some row) → RowOk file row
row_ok read ok file content row h = by (is_trivia file content) (row_or_fault file content) refl refl
  where
    same_row : (a b : Row) → ◌≡◌ {A = Result (Option Row) RowFault} (Ok (Some a)) (Ok (Some b)) → a ≡ b
    same_row a b e = cc

    by : (b : Bool) (r : Result Row RowFault) → is_trivia file content ≡ b → row_or_fault file content ≡ r → RowOk file row
    by true r e f = absurd (let k = (rw e at h) in cc)
    by false (Ok other) e f = (ok file row).1 (content, (read file content row).0 (f ∙ ap Ok (same_row other row (rw (e, f) at h))))
    by false (Err fault) e f = absurd (let k = (rw (e, f) at h) in cc)
