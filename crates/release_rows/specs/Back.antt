-- How a patch is made.
-- Grew old new               the new text is the old one with more behind it
-- AreCopies file from entries text copies   the copies stand in the text, and are the items that the entries are in the text `from`
-- LeadsOn old new file next now   wherever the old patch leads to nine files of which this one has the items next, the new patch leads to
--                            the same files with the items now in it
-- turned items slot          the list that has the entries now of the parts before the slot, and the entries next of the others
use Rattle.std.specs.Prelude.{◌≡◌, ℕ, List, ◌++◌, length, map, take, drop, All}
use Rattle.part_list.specs.Parts.{PartLists, flat}
use Rattle.part_list.specs.declared.entry.Entry.{Entry}
use Rattle.release_rows.specs.Patches.{LeadsBack, SpliceItems}
use Rattle.release_rows.specs.Releases.{items_at, with_items, FileItem, SourceFile}
use Rattle.release_rows.specs.StoredItems.{IsStored, stored_at}
use Rattle.release_rows.specs.declared.stored_item.StoredItem.{StoredItem}

abbrev pub Grew : List ℕ → List ℕ → Type 0
Grew old new = (more : List ℕ) × (new ≡ old ++ more)

pub record AreCopies (file : SourceFile) (from : List ℕ) (entries : List (Entry StoredItem)) (text : List ℕ) (copies : List (Entry StoredItem)) : Type 0 where
  pub stored : All (IsStored file text) copies
  pub items : map (stored_at file text) copies ≡ map (stored_at file from) entries

abbrev pub LeadsOn : List SpliceItems → List SpliceItems → SourceFile → List FileItem → List FileItem → Type 0
LeadsOn old new file next now = (start files : List (List FileItem)) → LeadsBack old start files → length files ≡ 9 → items_at files file ≡ next → LeadsBack new start (with_items files file now)

abbrev pub turned : {A : Type 0} → PartLists A → ℕ → List A
turned items slot = flat (take slot items.now) ++ flat (drop slot items.next)
