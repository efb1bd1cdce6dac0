-- The groups of the rows of a file are noted.
use Rattle.std.proofs.Common.{◌≡◌, ℕ, suc, Bool, true, false, List, [], ◌∷◌, ◌++◌, map, take, drop, set, Option, Some, None, Ok, refl, sym, ap, subst, ◌∙◌}
use Rattle.std.specs.List.{All, insert, list_any, remove}
use Rattle.std.proofs.lemmas.List.Elements.{All-append, All-cons, All-drop, All-set, All-take, All-weaker, All-head, All-tail}
use Rattle.std.proofs.lemmas.List.Folds.{list_any_none}
use Rattle.std.proofs.lemmas.Slice.Eq.{bytes_eq-Decides}
use Rattle.source_rows.specs.Faults.{row_or_fault}
use Rattle.source_rows.specs.KeyNames.{group_of}
use Rattle.source_rows.specs.Keys.{key_names, row_span}
use Rattle.part_list.specs.Parts.{PartLists, now_in, next_in}
use Rattle.part_list.specs.SeenNumbers.{Grows, may_have}
use Rattle.part_list.specs.declared.entry.Entry.{Entry}
use Rattle.part_list.specs.declared.seen_numbers.SeenNumbers.{SeenNumbers}
use Rattle.release_rows.specs.FileItems.{FileItem, SourceFile, Row}
use Rattle.release_rows.specs.Noted.{AreNoted, OptionNoted, ItemNoted, KeepNotes, RowNoted, group_hash, key_hash}
use Rattle.release_rows.specs.Operations.{ended, follows, put_in, row_passes, same_group, with_end}
use Rattle.release_rows.specs.StoredItems.{HasSpan, IsKeptFile, IsStored, content_at, stored_at}
use Rattle.release_rows.specs.declared.stored_item.StoredItem.{StoredItem}
use Rattle.release_rows.proofs.Arena.{items_kept}
use Rattle.release_rows.proofs.Edited.{map_remove}
use Rattle.release_rows.proofs.Seeking.{StoredAs, stored_as}
use Rattle.release_rows.proofs.Walks.{first_of}

-- ---- what is noted stays so

has_more : (file : SourceFile) (old new : SeenNumbers) (row : Option Row) → Grows old new → OptionNoted file old row → OptionNoted file new row
has_more file old new None grows h = h
has_more file old new (Some row) grows h = record { group = grows (group_hash (group_of file row)) h.group; key = grows (key_hash file (row_span row).lo (key_names file row)) h.key }

pub noted_more : (file : SourceFile) (old new : SeenNumbers) (items : List FileItem) → Grows old new → AreNoted file old items → AreNoted file new items
noted_more file old new items grows all = All-weaker (ItemNoted file old) (ItemNoted file new) (λ item h. has_more file old new item.row grows h) items all

pub notes_more : (file : SourceFile) (text : List ℕ) (old new : SeenNumbers) (items : PartLists (Entry StoredItem)) → Grows old new → KeepNotes file text old items → KeepNotes file text new items
notes_more file text old new items grows hashes = record {
  now = noted_more file old new _ grows hashes.now;
  next = noted_more file old new _ grows hashes.next;
}

-- ---- an item that is put in, or comes in the place of another one

pub noted_remove : (file : SourceFile) (seen_hashes : SeenNumbers) (items : List FileItem) (at : ℕ) → AreNoted file seen_hashes items → AreNoted file seen_hashes (remove items at)
noted_remove file seen_hashes items at all =
    All-append (ItemNoted file seen_hashes) (take at items) (drop (suc at) items) (All-take (ItemNoted file seen_hashes) at items all) (All-drop (ItemNoted file seen_hashes) (suc at) items all)

pub noted_insert : (file : SourceFile) (seen_hashes : SeenNumbers) (items : List FileItem) (at : ℕ) (item : FileItem) → AreNoted file seen_hashes items → ItemNoted file seen_hashes item → AreNoted file seen_hashes (insert items at item)
noted_insert file seen_hashes items at item all one =
    All-append (ItemNoted file seen_hashes) (take at items) (item ∷ drop at items) (All-take (ItemNoted file seen_hashes) at items all)
    (All-cons (ItemNoted file seen_hashes) item (drop at items) one (All-drop (ItemNoted file seen_hashes) at items all))

pub noted_set : (file : SourceFile) (seen_hashes : SeenNumbers) (items : List FileItem) (at : ℕ) (item : FileItem) → AreNoted file seen_hashes items → ItemNoted file seen_hashes item → AreNoted file seen_hashes (set items at item)
noted_set file seen_hashes items at item all one = All-set (ItemNoted file seen_hashes) items at item one all

-- an end gives no item another row
noted_ended : (file : SourceFile) (seen_hashes : SeenNumbers) (items : List FileItem) → AreNoted file seen_hashes items → AreNoted file seen_hashes (ended items)
noted_ended file seen_hashes [] all = all
noted_ended file seen_hashes (item ∷ []) all = All-cons (ItemNoted file seen_hashes) (with_end item) [] (All-head (ItemNoted file seen_hashes) item [] all) (All-tail (ItemNoted file seen_hashes) item [] all)
noted_ended file seen_hashes (item ∷ next ∷ items) all =
    All-cons (ItemNoted file seen_hashes) item (ended (next ∷ items)) (All-head (ItemNoted file seen_hashes) item (next ∷ items) all)
    (noted_ended file seen_hashes (next ∷ items) (All-tail (ItemNoted file seen_hashes) item (next ∷ items) all))

pub noted_put : (file : SourceFile) (seen_hashes : SeenNumbers) (items : List FileItem) (n : ℕ) (item : FileItem) → AreNoted file seen_hashes items → ItemNoted file seen_hashes item → AreNoted file seen_hashes (put_in items n item)
noted_put file seen_hashes items n item all one =
    All-append (ItemNoted file seen_hashes) (ended (take n items)) (item ∷ drop n items) (noted_ended file seen_hashes (take n items) (All-take (ItemNoted file seen_hashes) n items all))
    (All-cons (ItemNoted file seen_hashes) item (drop n items) one (All-drop (ItemNoted file seen_hashes) n items all))

-- ---- the hash of an item

-- what is noted of each row that its content is read as, if it begins with this code point
abbrev pub IsNoted : SourceFile → SeenNumbers → ℕ → List ℕ → Type 0
IsNoted file seen_hashes code content = (row : Row) → row_or_fault file content ≡ Ok row → code ≡ (row_span row).lo → RowNoted file seen_hashes row

noted_by : (file : SourceFile) (seen_hashes : SeenNumbers) (code last : ℕ) (content : List ℕ) (row : Option Row) → StoredAs file content row → HasSpan row code last → IsNoted file seen_hashes code content → OptionNoted file seen_hashes row
noted_by file seen_hashes code last content None st span noted = tt
noted_by file seen_hashes code last content (Some row) st span noted = noted row st.1 span.0

pub noted_stored : (file : SourceFile) (seen_hashes : SeenNumbers) (text : List ℕ) (e : Entry StoredItem) → IsStored file text e → IsNoted file seen_hashes e.code (content_at text e.item) → ItemNoted file seen_hashes (stored_at file text e)
noted_stored file seen_hashes text e stored noted = noted_by file seen_hashes e.code e.last (content_at text e.item) _ (stored_as file text e stored) stored.span noted

-- one more of the entries that are left is noted
pub noted_next : (file : SourceFile) (text : List ℕ) (old new : SeenNumbers) (entries : List (Entry StoredItem)) (e : Entry StoredItem) (rest : List (Entry StoredItem)) (whole : List FileItem) → entries ≡ e ∷ rest → All (IsStored file text) entries → IsNoted file new e.code (content_at text e.item) → Grows old new → ((later : SeenNumbers) → Grows old later → AreNoted file later (map (stored_at file text) entries) → AreNoted file later whole) → (later : SeenNumbers) → Grows new later → AreNoted file later (map (stored_at file text) rest) → AreNoted file later whole
noted_next file text old new entries e rest whole split stored noted grows so_far later more left =
    let st = stored_at file text in
    let one = noted_stored file later text e (first_of (IsStored file text) entries e rest split stored) (λ row is code. record { group = more _ (noted row is code).group; key = more _ (noted row is code).key }) in
    so_far later (λ t h. more t (grows t h)) (subst (λ (es : List (Entry StoredItem)). AreNoted file later (map st es)) (sym split) (All-cons (ItemNoted file later) (st e) (map st rest) one left))

-- ---- the hashes of a file that is edited

-- the text grew, more is noted, and the items next are others
pub notes_edited : (file : SourceFile) (text more : List ℕ) (added : ℕ) (seen_hashes later : SeenNumbers) (old new : PartLists (Entry StoredItem)) → IsKeptFile file text added old → KeepNotes file text seen_hashes old → Grows seen_hashes later → now_in new ≡ now_in old → AreNoted file later (map (stored_at file (text ++ more)) (next_in new)) → KeepNotes file (text ++ more) later new
notes_edited file text more added seen_hashes later old new kept hashes grows now next = record {
  now = rw (now, items_kept file text more (now_in old) kept.now) (noted_more file seen_hashes later _ grows hashes.now);
  next = next;
}

-- the items next are the same
pub notes_grown : (file : SourceFile) (text more : List ℕ) (added : ℕ) (seen_hashes later : SeenNumbers) (items : PartLists (Entry StoredItem)) → IsKeptFile file text added items → KeepNotes file text seen_hashes items → Grows seen_hashes later → KeepNotes file (text ++ more) later items
notes_grown file text more added seen_hashes later items kept hashes grows =
    notes_edited file text more added seen_hashes later items items kept hashes grows refl (rw (items_kept file text more (next_in items) kept.next) (noted_more file seen_hashes later _ grows hashes.next))

-- an entry next is taken out
pub notes_without : (file : SourceFile) (text : List ℕ) (seen_hashes : SeenNumbers) (at : ℕ) (old new : PartLists (Entry StoredItem)) → KeepNotes file text seen_hashes old → now_in new ≡ now_in old → next_in new ≡ remove (next_in old) at → KeepNotes file text seen_hashes new
notes_without file text seen_hashes at old new hashes now next = record {
  now = rw now hashes.now;
  next = rw (next, map_remove (stored_at file text) (next_in old) at) (noted_remove file seen_hashes (map (stored_at file text) (next_in old)) at hashes.next);
}

-- ---- a group that has no hash has no row

none_with : (file : SourceFile) (seen_hashes : SeenNumbers) (row other : Row) (b : Bool) → same_group file row other ≡ b → may_have seen_hashes (group_hash (group_of file row)) ≡ false → RowNoted file seen_hashes other → same_group file row other ≡ false
none_with file seen_hashes row other false is lacks has = is
none_with file seen_hashes row other true is lacks has =
    absurd (let e : false ≡ true = sym lacks ∙ ap (λ group. may_have seen_hashes (group_hash group)) ((bytes_eq-Decides (group_of file row) (group_of file other)).0 is) ∙ has.group in cc)

none_passes : (file : SourceFile) (seen_hashes : SeenNumbers) (row : Row) (item : FileItem) (o : Option Row) → item.row ≡ o → may_have seen_hashes (group_hash (group_of file row)) ≡ false → OptionNoted file seen_hashes o → row_passes (same_group file row) item ≡ false
none_passes file seen_hashes row item None is lacks has = rw is refl
none_passes file seen_hashes row item (Some other) is lacks has = rw is (none_with file seen_hashes row other _ refl lacks has)

none_follows : (file : SourceFile) (row : Row) (item : FileItem) (o : Option Row) → item.row ≡ o → row_passes (same_group file row) item ≡ false → row_passes (follows file row) item ≡ false
none_follows file row item None is none = rw is refl
none_follows file row item (Some other) is none =
    let apart : same_group file row other ≡ false = (rw is at none) in
    rw (is, apart) refl

pub none_alike : (file : SourceFile) (seen_hashes : SeenNumbers) (row : Row) (items : List FileItem) → may_have seen_hashes (group_hash (group_of file row)) ≡ false → AreNoted file seen_hashes items → All (λ item. row_passes (same_group file row) item ≡ false) items
none_alike file seen_hashes row items lacks all = All-weaker (ItemNoted file seen_hashes) (λ item. row_passes (same_group file row) item ≡ false) (λ item h. none_passes file seen_hashes row item item.row refl lacks h) items all

pub alike_nowhere : (file : SourceFile) (seen_hashes : SeenNumbers) (row : Row) (items : List FileItem) → may_have seen_hashes (group_hash (group_of file row)) ≡ false → AreNoted file seen_hashes items → list_any (row_passes (same_group file row)) items ≡ false
alike_nowhere file seen_hashes row items lacks all = list_any_none (row_passes (same_group file row)) items (none_alike file seen_hashes row items lacks all)

pub follows_nowhere : (file : SourceFile) (seen_hashes : SeenNumbers) (row : Row) (items : List FileItem) → may_have seen_hashes (group_hash (group_of file row)) ≡ false → AreNoted file seen_hashes items → list_any (row_passes (follows file row)) items ≡ false
follows_nowhere file seen_hashes row items lacks all =
    list_any_none (row_passes (follows file row)) items
    (All-weaker (λ item. row_passes (same_group file row) item ≡ false) (λ item. row_passes (follows file row) item ≡ false) (λ item h. none_follows file row item item.row refl h) items (none_alike file seen_hashes row items lacks all))
