-- Patches: the way from later items of files back to earlier ones.
-- SpliceItems                a file, a place among its items, counted from 0, the items that stand there, and those that stood
--                            there before
-- Stands s items             the later items of the splice stand at its place among these
-- undone s files             the files with the earlier items in the place of the later ones
-- back patch files           the splices undone, one after the other
-- IsDefined patch files      the later items of each splice stand at its place when its turn comes
-- LeadsBack patch next now   the patch is defined of the files next, and leads from them back to the files now
-- IsWayBack patch files      the patch is defined of the files, and leads back to what a release keeps
-- item_spans items           what the rows of the items speak of
-- patch_spans patch          what the rows of the splices speak of: those of the later items of each, and then those of its earlier ones
-- RowsStayBack               a code point outside of that has the same rows that speak of it, in the same order, in each file
-- AnswersBack result patch old new   what `prepare_back` answers: these spans, and the patch leads to what is prepared then; after want
--                            of memory all is as it was
use Rattle.std.specs.Prelude.{◌≡◌, ℕ, ◌+◌, ◌≤◌, false, List, [], ◌∷◌, ◌++◌, length, take, drop, Result, Ok, Err}
use Rattle.std.specs.List.{filter, flat_map, list_any}
use Rattle.ucd_points.specs.Bounds.{Bounds}
use Rattle.ucd_points.specs.declared.memory.Memory.{Memory}
use Rattle.ucd_facts.specs.Facts.{within}
use Rattle.part_list.specs.Parts.{spliced}
use Rattle.release_rows.specs.FileItems.{FileItem, rows_in, SourceFile}
use Rattle.release_rows.specs.OperationLaws.{speaks_of}
use Rattle.release_rows.specs.Operations.{spans_of}
use Rattle.release_rows.specs.Releases.{AllAreKept, ReleaseItems, items_at, with_items}

pub record SpliceItems : Type 0 where
  pub file : SourceFile
  pub at : ℕ
  pub later : List FileItem
  pub earlier : List FileItem

pub record Stands (s : SpliceItems) (items : List FileItem) : Type 0 where
  pub here : take (length s.later) (drop s.at items) ≡ s.later
  pub within : s.at + length s.later ≤ length items

abbrev pub undone : SpliceItems → List (List FileItem) → List (List FileItem)
undone s files = with_items files s.file (spliced (items_at files s.file) s.at (length s.later) s.earlier)

abbrev pub back : List SpliceItems → List (List FileItem) → List (List FileItem)
back [] files = files
back (s ∷ patch) files = back patch (undone s files)

abbrev pub IsDefined : List SpliceItems → List (List FileItem) → Type 0
IsDefined [] files = Unit {0}
IsDefined (s ∷ patch) files = Stands s (items_at files s.file) × IsDefined patch (undone s files)

pub record LeadsBack (patch : List SpliceItems) (next now : List (List FileItem)) : Type 0 where
  pub defined : IsDefined patch next
  pub leads : back patch next ≡ now

pub record IsWayBack (patch : List SpliceItems) (files : List (List FileItem)) : Type 0 where
  pub defined : IsDefined patch files
  pub kept : AllAreKept (back patch files)

-- ---- what it touches

abbrev pub item_spans : List FileItem → List Bounds
item_spans items = flat_map (λ item. spans_of item.row) items

abbrev pub patch_spans : List SpliceItems → List Bounds
patch_spans patch = flat_map (λ s. item_spans s.later ++ item_spans s.earlier) patch

abbrev pub RowsStayBack : Type 0
RowsStayBack = (patch : List SpliceItems) (files : List (List FileItem)) (file : SourceFile) (c : ℕ) → IsDefined patch files → list_any (within c) (patch_spans patch) ≡ false → filter (speaks_of c) (rows_in (items_at (back patch files) file)) ≡ filter (speaks_of c) (rows_in (items_at files file))

abbrev pub AnswersBack : Result (List Bounds) Memory → List SpliceItems → ReleaseItems → ReleaseItems → Type 0
AnswersBack (Ok spans) patch old new = (new ≡ record { current = old.current; prepared = back patch old.current }) × (spans ≡ patch_spans patch)
AnswersBack (Err _) patch old new = new ≡ old
