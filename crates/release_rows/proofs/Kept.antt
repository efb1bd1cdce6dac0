-- What the items of a file keep: their rows, and their bytes.
use Rattle.std.proofs.Common.{◌≡◌, ℕ, ◌+◌, Bool, true, false, cond, List, [], ◌∷◌, ◌++◌, map, Option, Some, None, Result, Ok, Err, refl, sym, ap, ◌∙◌, append_assoc}
use Rattle.ucd_points.specs.Lines.{LineItem, item_bytes, ending_bytes, joined, items_of}
use Rattle.source_rows.specs.declared.fault.RowFault.{RowFault}
use Rattle.release_rows.specs.Keys.{key_rule}
use Rattle.release_rows.specs.Pieces.{Lines, pieces, opens_range, piece_content, one_line, two_lines}
use Rattle.release_rows.specs.FileItems.{FileItem, rows_in, bytes_of, file_item_bytes, lines_of, SourceFile, Row}
use Rattle.release_rows.specs.Loading.{LoadFault, content_row, file_item, piece_fault, first_fault, unless_fault, file_or_fault, row_rule}
use Rattle.release_rows.specs.Releases.{IsKept, AreKeptBelow}
use Rattle.release_rows.specs.declared.load_stop.LoadRule.{LoadRule}
use Rattle.release_rows.proofs.RowRules.{no_key_rule}

-- ---- rows

pub no_rule_by : (file : SourceFile) (above : List FileItem) (p : Lines) (row : Row) (o : Option LoadRule) → content_row file (piece_content p) ≡ Ok (Some row) → row_rule file (rows_in above) row ≡ o → piece_fault file above p ≡ None → o ≡ None
no_rule_by file above p row None h k free = refl
no_rule_by file above p row (Some rule) h k free = absurd (let e : Some (record { line = lines_of above + 1; rule = rule }) ≡ None = (rw (h, k) at free) in cc)

kept_by : (file : SourceFile) (above : List FileItem) (p : Lines) (r : Result (Option Row) RowFault) → content_row file (piece_content p) ≡ r → piece_fault file above p ≡ None → IsKept file above (file_item file p)
kept_by file above p (Err fault) h free = absurd (let e = (rw h at free) in cc)
kept_by file above p (Ok None) h free = record { is_read = rw h refl; stands = rw h tt }
kept_by file above p (Ok (Some row)) h free =
    let none = no_rule_by file above p row (row_rule file (rows_in above) row) h refl free in
    record { is_read = rw h refl; stands = rw h (no_key_rule (key_rule file (rows_in above) row) false file row (rows_in above) refl none) }

pub later_by : (file : SourceFile) (above : List FileItem) (p : Lines) (ps : List Lines) (o : Option LoadFault) → piece_fault file above p ≡ o → first_fault file above (p ∷ ps) ≡ None → (o ≡ None) × (first_fault file (above ++ file_item file p ∷ []) ps ≡ None)
later_by file above p ps (Some fault) e h = absurd (let k : Some fault ≡ None = (rw e at h) in cc)
later_by file above p ps None e h = (refl, (rw e at h))

-- where no piece has a fault, each row stands among the rows above it
pub kept_below : (file : SourceFile) (above : List FileItem) (ps : List Lines) → first_fault file above ps ≡ None → AreKeptBelow file above (map (file_item file) ps)
kept_below file above [] h = tt
kept_below file above (p ∷ ps) h =
    let parts = later_by file above p ps (piece_fault file above p) refl h in
    (kept_by file above p (content_row file (piece_content p)) refl parts.0, kept_below file (above ++ file_item file p ∷ []) ps parts.1)

-- ---- bytes

two_bytes : (file : SourceFile) (a b : LineItem) → file_item_bytes (file_item file (two_lines a b)) ≡ item_bytes a ++ item_bytes b
two_bytes file a b = append_assoc (item_bytes a) b.content (ending_bytes b.ending)

pieces_step : (file : SourceFile) (a b : LineItem) (rest : List LineItem) (opens : Bool) → bytes_of (map (file_item file) (pieces file rest)) ≡ joined rest → bytes_of (map (file_item file) (pieces file (b ∷ rest))) ≡ joined (b ∷ rest) → bytes_of (map (file_item file) (cond opens (two_lines a b ∷ pieces file rest) (one_line a ∷ pieces file (b ∷ rest)))) ≡ item_bytes a ++ joined (b ∷ rest)
pieces_step file a b rest true two one = rw (two, two_bytes file a b) (append_assoc (item_bytes a) (item_bytes b) (joined rest))
pieces_step file a b rest false two one = ap (λ (bs : List ℕ). item_bytes a ++ bs) one

-- pieces put together are the lines put together
pub pieces_join : (file : SourceFile) (lines : List LineItem) → bytes_of (map (file_item file) (pieces file lines)) ≡ joined lines
pieces_join file [] = refl
pieces_join file (a ∷ []) = refl
pieces_join file (a ∷ b ∷ rest) = pieces_step file a b rest (opens_range file a.content) (pieces_join file rest) (pieces_join file (b ∷ rest))

-- ---- a file

pub ok_by : (o : Option LoadFault) (items all : List FileItem) → unless_fault o all ≡ Ok items → (o ≡ None) × (all ≡ items)
ok_by None items all h = (refl, cc)
ok_by (Some fault) items all h = absurd cc

pub items_join : (file : SourceFile) (bytes : List ℕ) (items : List FileItem) → joined (items_of bytes) ≡ bytes → file_or_fault file bytes ≡ Ok items → bytes_of items ≡ bytes
unfolding file_or_fault
items_join file bytes items whole h =
    let ps = pieces file (items_of bytes) in
    let parts = ok_by (first_fault file [] ps) items (map (file_item file) ps) h in
    ap bytes_of (sym parts.1) ∙ pieces_join file (items_of bytes) ∙ whole
