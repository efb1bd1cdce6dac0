-- Where the items of a file stand in its text.
use Rattle.std.proofs.Common.{◌≡◌, ℕ, ◌+◌, ◌≤◌, List, [], ◌∷◌, ◌++◌, length, take, drop, map, Option, Some, None, Ok, refl, sym, ap, subst, ◌∙◌, arith, append_assoc, length-append, length-drop}
use Rattle.std.proofs.Math.Seq.{take-append_seam, drop-append_seam}
use Rattle.std.proofs.lemmas.List.{append-nil, map-append, length-take, length_push}
use Rattle.std.proofs.lemmas.List.Elements.{All-nil, All-cons, All-append}
use Rattle.std.proofs.lemmas.Grind.{flat_map-append}
use Rattle.ucd_points.specs.Lines.{ending_bytes}
use Rattle.ucd_lines.specs.Items.{ending_of}
use Rattle.part_list.specs.Parts.{PartLists, now_in, next_in}
use Rattle.part_list.specs.declared.entry.Entry.{Entry}
use Rattle.release_rows.specs.Pieces.{Lines, piece_content, piece_ending, piece_lines}
use Rattle.release_rows.specs.LoadedRows.{EntersSome}
use Rattle.release_rows.specs.FileItems.{FileItem, bytes_of, file_item_bytes, lines_of, rows_in, SourceFile, Row}
use Rattle.release_rows.specs.Loading.{at_line, content_row, file_item, piece_fault}
use Rattle.release_rows.specs.Progress.{Stands, IsLoading, rule_of, start_of_entry}
use Rattle.release_rows.specs.StoredItems.{content_at, item_at, stored_at, IsItem, IsStored, HasSpan}
use Rattle.release_rows.specs.Tags.{content_tag}
use Rattle.release_rows.specs.declared.loaded_row.LoadedRow.{LoadedRow}
use Rattle.release_rows.specs.declared.stored_item.StoredItem.{StoredItem}
use Rattle.release_rows.proofs.Growing.{lines_with, start_after}

part_is : (front content ending rest : List ℕ) → take (length content) (drop (length front) (front ++ ((content ++ ending) ++ rest))) ≡ content
part_is front content ending rest =
    ap (λ (bs : List ℕ). take (length content) bs) (drop-append_seam front ((content ++ ending) ++ rest) ∙ append_assoc content ending rest)
    ∙ take-append_seam content (ending ++ rest)

-- the content of a piece that stands behind the items
pub content_is : (text : List ℕ) (items : List FileItem) (p : Lines) (s : StoredItem) → Stands text items p → s.start ≡ length (bytes_of items) → s.len ≡ length (piece_content p) → content_at text s ≡ piece_content p
content_is text items p s stands start len =
    rw (start, len, stands.1) (part_is (bytes_of items) (piece_content p) (ending_bytes (piece_ending p)) stands.0)

pub item_is : (file : SourceFile) (text : List ℕ) (s : StoredItem) (p : Lines) → content_at text s ≡ piece_content p → ending_of s.ending ≡ piece_ending p → s.lines ≡ piece_lines p → item_at file text s ≡ file_item file p
item_is file text s p content ending lines = rw (content, ending, lines) refl

pub bytes_with : (items : List FileItem) (item : FileItem) → bytes_of (items ++ item ∷ []) ≡ bytes_of items ++ file_item_bytes item
bytes_with items item = flat_map-append file_item_bytes items (item ∷ []) ∙ ap (λ (bs : List ℕ). bytes_of items ++ bs) (append-nil (file_item_bytes item))

length_content : (text : List ℕ) (s : StoredItem) → s.start + s.len ≤ length text → length (content_at text s) ≡ s.len
length_content text s fits = omega (arith, length-take s.len (drop s.start text), length-drop s.start text, fits)

item_length : (file : SourceFile) (text : List ℕ) (s : StoredItem) → s.start + s.len ≤ length text → length (file_item_bytes (item_at file text s)) ≡ s.len + length (ending_bytes (ending_of s.ending))
item_length file text s fits = length-append (content_at text s) (ending_bytes (ending_of s.ending)) ∙ ap (λ (n : ℕ). n + length (ending_bytes (ending_of s.ending))) (length_content text s fits)

-- one more item behind those that are loaded
pub loads : (file : SourceFile) (text : List ℕ) (old all : PartLists (Entry StoredItem)) (e : Entry StoredItem) (s : StoredItem) (start : Option ℕ) (count end : ℕ) (entry : Option LoadedRow) → IsLoading file text old start count end → e.item ≡ s → now_in all ≡ now_in old ++ e ∷ [] → next_in all ≡ next_in old ++ e ∷ [] → IsItem file text s → HasSpan (item_at file text s).row e.code e.last → e.tag ≡ content_tag file (content_at text s) → EntersSome file entry (item_at file text s).row → IsLoading file text all (start_of_entry start entry) (count + s.lines) (end + (s.len + length (ending_bytes (ending_of s.ending))))
loads file text old all e s start count end entry h is now next item span tag enters =
    let items = map (stored_at file text) (now_in old) in
    let new = item_at file text s in
    let by : StoredItem → FileItem = λ x. item_at file text x in
    let pushed : map (stored_at file text) (now_in all) ≡ items ++ new ∷ [] =
    ap (map (stored_at file text)) now ∙ map-append (stored_at file text) (now_in old) (e ∷ []) ∙ ap (λ (i : FileItem). items ++ i ∷ []) (ap by is) in
    let S : StoredItem → Type 0 = λ x. IsItem file text x × HasSpan (item_at file text x).row e.code e.last × (e.tag ≡ content_tag file (content_at text x)) in
    let stands : S e.item = subst S (sym is) (item, span, tag) in
    let stored : IsStored file text e = record { item = stands.0; span = stands.1; tag = stands.2 } in
    let count_old = h.few in
    let one = item.some in
    let longer : length (now_in all) ≡ length (now_in old) + 1 = ap length now ∙ length_push (now_in old) e in
    let bytes : length (bytes_of (items ++ new ∷ [])) ≡ length (bytes_of items) + length (file_item_bytes new) = ap length (bytes_with items new) ∙ length-append (bytes_of items) (file_item_bytes new) in
    record {
      each = rw now (All-append (IsStored file text) (now_in old) (e ∷ []) h.each (All-cons (IsStored file text) e [] stored (All-nil (IsStored file text))));
      same = rw (now, next, h.same) refl;
      few = omega arith;
      before = rw pushed (start_after file items new start entry h.before enters);
      lines = rw pushed (ap (λ (n : ℕ). n + s.lines) h.lines ∙ sym (lines_with items new));
      ends = rw pushed (omega (arith, h.ends, bytes, item_length file text s item.fits));
      small = h.small;
    }

-- ---- a piece

-- the fault of a piece that reads as this row
pub fault_is : (file : SourceFile) (items : List FileItem) (p : Lines) (row : Option Row) → content_row file (piece_content p) ≡ Ok row → piece_fault file items p ≡ at_line (lines_of items + 1) (rule_of file (rows_in items) row)
fault_is file items p None read = rw read refl
fault_is file items p (Some row) read = rw read refl
