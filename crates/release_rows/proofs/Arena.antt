-- What stands in a text stays where the text grows.
use Rattle.std.proofs.Common.{◌≡◌, ℕ, ◌+◌, ◌≤◌, List, [], ◌∷◌, ◌++◌, length, take, drop, map, refl, ap, ◌∙◌, arith, length-append, length-drop, All}
use Rattle.std.proofs.lemmas.List.{take-append-le, drop-append-le}
use Rattle.std.proofs.lemmas.List.Elements.{All-weaker, All-head, All-tail}
use Rattle.ucd_points.specs.declared.files.SourceFile.{SourceFile}
use Rattle.part_list.specs.declared.entry.Entry.{Entry}
use Rattle.release_rows.specs.StoredItems.{content_at, stored_at, IsStored}
use Rattle.release_rows.specs.declared.stored_item.StoredItem.{StoredItem}

pub content_kept : (text more : List ℕ) (s : StoredItem) → s.start + s.len ≤ length text → content_at (text ++ more) s ≡ content_at text s
content_kept text more s fits =
    ap (take s.len) (drop-append-le s.start text more (omega arith))
    ∙ take-append-le s.len (drop s.start text) more (omega (arith, length-drop s.start text))

pub stored_kept : (file : SourceFile) (text more : List ℕ) (e : Entry StoredItem) → IsStored file text e → stored_at file (text ++ more) e ≡ stored_at file text e
stored_kept file text more e h = rw (content_kept text more e.item h.item.fits) refl

pub still_stored : (file : SourceFile) (text more : List ℕ) (e : Entry StoredItem) → IsStored file text e → IsStored file (text ++ more) e
still_stored file text more e h =
    let same = content_kept text more e.item h.item.fits in
    let fits = h.item.fits in
    let longer = length-append text more in
    record {
      item = record { fits = omega arith; some = h.item.some; few = h.item.few; is_read = rw same h.item.is_read; brief = rw same h.item.brief };
      span = rw same h.span;
      tag = rw same h.tag;
    }

pub all_still_stored : (file : SourceFile) (text more : List ℕ) (items : List (Entry StoredItem)) → All (IsStored file text) items → All (IsStored file (text ++ more)) items
all_still_stored file text more items all = All-weaker (IsStored file text) (IsStored file (text ++ more)) (still_stored file text more) items all

pub items_kept : (file : SourceFile) (text more : List ℕ) (items : List (Entry StoredItem)) → All (IsStored file text) items → map (stored_at file (text ++ more)) items ≡ map (stored_at file text) items
items_kept file text more [] all = refl
items_kept file text more (e ∷ items) all =
    rw (stored_kept file text more e (All-head (IsStored file text) e items all), items_kept file text more items (All-tail (IsStored file text) e items all)) refl
