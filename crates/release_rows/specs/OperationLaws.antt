-- Laws of operations.
-- OperationsKeepRows    where the items of a file are kept, they are so after an operation on the file: each item is read from its
--                       content, keys differ, and rows do not overlap where the file forbids it
-- OperationsKeepOrder   where the rows of UnicodeData.txt ascend, they do so after an operation
-- OperationsKeepCuts    where the items of a file are cut as lines are, they are so after an operation
-- speaks_of c row       the code point is one that the row speaks of; never so of a row of names
-- MissingRowsOverlapNothing   a missing row overlaps no row of another key, nor does such a row overlap it
-- RowsStay              a code point outside of what an operation touches has the same rows that speak of it, in the same order
use Rattle.std.specs.Prelude.{◌≡◌, ℕ, Bool, true, false, List, Ok}
use Rattle.std.specs.List.{filter, list_any}
use Rattle.ucd_facts.specs.Facts.{within}
use Rattle.release_rows.specs.Cuts.{AreCut, Ascends}
use Rattle.release_rows.specs.FileItems.{FileItem, rows_in, SourceFile, Row}
use Rattle.release_rows.specs.Keys.{is_missing_row}
use Rattle.release_rows.specs.Operations.{IsOp, edited, op_file, overlaps_another, row_spans, touched}
use Rattle.release_rows.specs.Releases.{AreKept}
use Rattle.release_rows.specs.declared.operation.Op.{Op}

abbrev pub OperationsKeepRows : Type 0
OperationsKeepRows = (op : Op) (items next : List FileItem) → IsOp op → AreKept (op_file op) items → edited items op ≡ Ok next → AreKept (op_file op) next

abbrev pub OperationsKeepOrder : Type 0
OperationsKeepOrder = (op : Op) (items next : List FileItem) → Ascends (op_file op) (rows_in items) → edited items op ≡ Ok next → Ascends (op_file op) (rows_in next)

abbrev pub OperationsKeepCuts : Type 0
OperationsKeepCuts = (op : Op) (items next : List FileItem) → IsOp op → AreCut items → edited items op ≡ Ok next → AreCut next

abbrev pub MissingRowsOverlapNothing : Type 0
MissingRowsOverlapNothing = (file : SourceFile) (row other : Row) → is_missing_row row ≡ true → (overlaps_another file row other ≡ false) × (overlaps_another file other row ≡ false)

abbrev pub speaks_of : ℕ → Row → Bool
speaks_of c row = list_any (within c) (row_spans row)

abbrev pub RowsStay : Type 0
RowsStay = (op : Op) (items next : List FileItem) (c : ℕ) → edited items op ≡ Ok next → list_any (within c) (touched items op) ≡ false → filter (speaks_of c) (rows_in next) ≡ filter (speaks_of c) (rows_in items)
