-- What a release keeps.
-- items_at files file             those of one file, which stands at its place in the list of the files
-- with_items files file items     the same with other items in one file
-- no_items                        no file has an item
-- files_now, files_next           the items of each file now, and next
-- committed lists, discarded lists   the file once what is next is what is now, and once what is now is what is next
-- ReleaseItems                    the items now, and the items that are prepared to be the next ones
-- items_now, items_next           the items of one file, now and next
-- loaded release file items       the release whose file has these items, now and next
-- rows_of_items files file        the rows of one file, where these are the items of the files
-- rows_now release file           the rows of one file now
-- rows_next release file          the rows of one file next
-- onto_numbered line row rows     the row with the number of its line before the others; the others alone where there is no row
-- numbered_rows line items        the rows in order, each with the number of its first line; the first item's line is given
-- rows_at items                   the same, with lines counted from 1
-- StandsBelow file above row      the row has another key than the rows of the items above and overlaps none of them where the file
--                                 forbids it; so it is where there is no row
-- IsKept file above item          the item's row is the one that its content is read as, and has another key than the rows of the
--                                 items above and overlaps none of them where the file forbids it (K1, K4)
-- AreKeptBelow file above items   IsKept of each of the items, below the items above them all
-- AreKept file items              each item is read from its content, and each row has another key than the rows above it and
--                                 overlaps none of them where the file forbids it
-- AreSound file items             the items are AreKept, the rows of UnicodeData.txt ascend, and the items are cut as lines are
-- AllAreKept files                there are nine files, and of each the items are AreSound
-- AnswersLoad                     what `load_file` answers, and what it leaves
use Rattle.std.specs.Prelude.{◌≡◌, ℕ, ◌+◌, List, [], ◌∷◌, ◌++◌, length, map, slice_index_or, slice_set, Option, Some, None, Result, Ok, Err}
use Rattle.ucd_points.specs.SourceFiles.{file_place}
use Rattle.release_rows.specs.Cuts.{AreCut, Ascends}
use Rattle.release_rows.specs.Keys.{key_rule}
pub use Rattle.release_rows.specs.FileItems.{FileItem, SourceFile, Row}
use Rattle.release_rows.specs.FileItems.{FileLists, rows_in}
use Rattle.release_rows.specs.Loading.{LoadFault, content_row}
use Rattle.release_rows.specs.declared.load_stop.LoadStop.{LoadStop}
use Rattle.release_rows.specs.declared.load_stop.LoadStop.TheVariants.{Fault, Memory}

abbrev pub items_at : List (List FileItem) → SourceFile → List FileItem
items_at files file = slice_index_or files (file_place file) []

abbrev pub with_items : List (List FileItem) → SourceFile → List FileItem → List (List FileItem)
with_items files file items = slice_set files (file_place file) items

abbrev pub no_items : List (List FileItem)
no_items = [] ∷ [] ∷ [] ∷ [] ∷ [] ∷ [] ∷ [] ∷ [] ∷ [] ∷ []

abbrev pub files_now : List FileLists → List (List FileItem)
files_now files = map (λ lists. lists.now) files

abbrev pub files_next : List FileLists → List (List FileItem)
files_next files = map (λ lists. lists.next) files

abbrev pub committed : FileLists → FileLists
committed lists = record { file = lists.file; now = lists.next; next = lists.next }

abbrev pub discarded : FileLists → FileLists
discarded lists = record { file = lists.file; now = lists.now; next = lists.now }

pub record ReleaseItems : Type 0 where
  pub current : List (List FileItem)
  pub prepared : List (List FileItem)

abbrev pub items_now : ReleaseItems → SourceFile → List FileItem
items_now release file = items_at release.current file

abbrev pub items_next : ReleaseItems → SourceFile → List FileItem
items_next release file = items_at release.prepared file

abbrev pub loaded : ReleaseItems → SourceFile → List FileItem → ReleaseItems
loaded release file items = record { current = with_items release.current file items; prepared = with_items release.prepared file items }

-- ---- rows

abbrev pub rows_of_items : List (List FileItem) → SourceFile → List Row
rows_of_items files file = rows_in (items_at files file)

abbrev pub rows_now : ReleaseItems → SourceFile → List Row
rows_now release file = rows_of_items release.current file

abbrev pub rows_next : ReleaseItems → SourceFile → List Row
rows_next release file = rows_of_items release.prepared file

abbrev pub onto_numbered : ℕ → Option Row → List (ℕ × Row) → List (ℕ × Row)
onto_numbered line None rows = rows
onto_numbered line (Some row) rows = (line, row) ∷ rows

abbrev pub numbered_rows : ℕ → List FileItem → List (ℕ × Row)
numbered_rows line [] = []
numbered_rows line (item ∷ items) = onto_numbered line item.row (numbered_rows (line + item.lines) items)

abbrev pub rows_at : List FileItem → List (ℕ × Row)
rows_at items = numbered_rows 1 items

-- ---- what is kept

abbrev StandsBelow : SourceFile → List FileItem → Option Row → Type 0
StandsBelow file above None = Unit {0}
StandsBelow file above (Some row) = key_rule file (rows_in above) row ≡ None

pub record IsKept (file : SourceFile) (above : List FileItem) (item : FileItem) : Type 0 where
  pub is_read : content_row file item.content ≡ Ok item.row
  pub stands : StandsBelow file above item.row

abbrev pub AreKeptBelow : SourceFile → List FileItem → List FileItem → Type 0
AreKeptBelow file above [] = Unit {0}
AreKeptBelow file above (item ∷ items) = IsKept file above item × AreKeptBelow file (above ++ item ∷ []) items

abbrev pub AreKept : SourceFile → List FileItem → Type 0
AreKept file items = AreKeptBelow file [] items

pub record AreSound (file : SourceFile) (items : List FileItem) : Type 0 where
  pub kept : AreKept file items
  pub ascends : Ascends file (rows_in items)
  pub cut : AreCut items

pub record AllAreKept (files : List (List FileItem)) : Type 0 where
  pub nine : length files ≡ 9
  pub each : (file : SourceFile) → AreSound file (items_at files file)

-- ---- loading

abbrev pub AnswersLoad : Result (Unit {0}) LoadStop → Result (List FileItem) LoadFault → SourceFile → ReleaseItems → ReleaseItems → Type 0
AnswersLoad (Ok _) (Ok items) file old new = new ≡ loaded old file items
AnswersLoad (Err (Fault line rule)) (Err fault) file old new = (fault ≡ record { line = line; rule = rule }) × (new ≡ old)
AnswersLoad (Err Memory) expected file old new = new ≡ old
AnswersLoad _ _ file old new = ⊥
