-- The groups and the keys of the rows of a file, as numbers.
-- hash_on hash bytes          the hash with more bytes: each is one more digit of base 2654435761, and no digit is 0; what is left of that
--                             number when it is divided by 4294967291, a prime
-- names_hash hash names       the hash with more names, each with a `;` behind it
-- group_hash group            the hash of the group's name
-- key_hash file code names    the hash of the names of a key in PropList.txt and in the files whose keys are names alone; in SpecialCasing.txt
--                             that of its names behind its code point, which is the first digit; else 0
-- RowNoted file seen_hashes row   the hashes of the row's group and of its key may be among those seen
-- ItemNoted file seen_hashes item   so it is of the item's row, if it has a row
-- AreNoted file seen_hashes items   so it is of each item
-- KeepNotes file text seen_hashes items   so it is of the items now, and of those next
use Rattle.std.specs.Prelude.{◌≡◌, ℕ, ◌+◌, ◌*◌, ◌%◌, true, List, [], ◌∷◌, map, Option, Some, None, codes, All}
use Rattle.ucd_points.specs.declared.files.SourceFile.TheVariants.{PropList, SpecialCasing, PropertyAliases, PropertyValueAliases}
use Rattle.source_rows.specs.KeyNames.{group_of}
use Rattle.source_rows.specs.Keys.{key_names, row_span}
use Rattle.part_list.specs.Parts.{PartLists, now_in, next_in}
use Rattle.part_list.specs.SeenNumbers.{may_have}
use Rattle.part_list.specs.declared.entry.Entry.{Entry}
use Rattle.part_list.specs.declared.seen_numbers.SeenNumbers.{SeenNumbers}
use Rattle.release_rows.specs.FileItems.{FileItem, SourceFile, Row}
use Rattle.release_rows.specs.StoredItems.{stored_at}
use Rattle.release_rows.specs.declared.stored_item.StoredItem.{StoredItem}

abbrev pub hash_on : ℕ → List ℕ → ℕ
hash_on hash [] = hash
hash_on hash (b ∷ bs) = hash_on ((hash * 2654435761 + b + 1) % 4294967291) bs

abbrev pub names_hash : ℕ → List (List ℕ) → ℕ
names_hash hash [] = hash
names_hash hash (name ∷ names) = names_hash (hash_on (hash_on hash name) (codes ";")) names

abbrev pub group_hash : List ℕ → ℕ
group_hash group = hash_on 0 group

abbrev pub key_hash : SourceFile → ℕ → List (List ℕ) → ℕ
key_hash PropList code names = names_hash 0 names
key_hash SpecialCasing code names = names_hash code names
key_hash PropertyAliases code names = names_hash 0 names
key_hash PropertyValueAliases code names = names_hash 0 names
key_hash _ code names = 0

pub record RowNoted (file : SourceFile) (seen_hashes : SeenNumbers) (row : Row) : Type 0 where
  pub group : may_have seen_hashes (group_hash (group_of file row)) ≡ true
  pub key : may_have seen_hashes (key_hash file (row_span row).lo (key_names file row)) ≡ true

abbrev pub OptionNoted : SourceFile → SeenNumbers → Option Row → Type 0
OptionNoted file seen_hashes None = Unit {0}
OptionNoted file seen_hashes (Some row) = RowNoted file seen_hashes row

abbrev pub ItemNoted : SourceFile → SeenNumbers → FileItem → Type 0
ItemNoted file seen_hashes item = OptionNoted file seen_hashes item.row

abbrev pub AreNoted : SourceFile → SeenNumbers → List FileItem → Type 0
AreNoted file seen_hashes items = All (ItemNoted file seen_hashes) items

pub record KeepNotes (file : SourceFile) (text : List ℕ) (seen_hashes : SeenNumbers) (items : PartLists (Entry StoredItem)) : Type 0 where
  pub now : AreNoted file seen_hashes (map (stored_at file text) (now_in items))
  pub next : AreNoted file seen_hashes (map (stored_at file text) (next_in items))
