-- The lines above a piece of a file are counted by their LFs.
use Rattle.std.proofs.Common.{◌≡◌, ℕ, ◌+◌, Bool, true, false, cond, List, [], ◌∷◌, ◌++◌, map, count_by, refl, sym, ap, subst, ◌∙◌, arith, append_assoc, flat_map}
use Rattle.std.proofs.lemmas.Bool.{or_parts}
use Rattle.std.proofs.lemmas.List.Concat.{flat_map-cons}
use Rattle.std.proofs.lemmas.List.Sums.{sum_by-append, sum_by-cons}
use Rattle.ucd_lines.specs.Laws.{AreLines, NoLineFeedInside, OnlyTheLastIsUnended, EndingsAreToldApart, lines_behind}
use Rattle.ucd_points.specs.Lines.{LineItem, LineEnding, unended, lf, cr_lf, ending_bytes, item_bytes, items_of, is_lf, holds_line_feed}
use Rattle.release_rows.specs.FileItems.{FileItem, lines_of, SourceFile}
use Rattle.release_rows.specs.Loading.{file_item}
use Rattle.release_rows.specs.Pieces.{Lines, one_line, opens_range, pieces, piece_bytes, piece_lines, two_lines}
use Rattle.ucdshop_core.specs.LineLaws.{line_feeds, LinesAreCounted}

-- ---- LFs of lines

feeds_append : (xs ys : List ℕ) → count_by is_lf (xs ++ ys) ≡ count_by is_lf xs + count_by is_lf ys
feeds_append xs ys = sum_by-append (λ x. cond (is_lf x) 1 0) xs ys

no_feeds : (bs : List ℕ) → holds_line_feed bs ≡ false → count_by is_lf bs ≡ 0
no_feeds [] h = refl
no_feeds (b ∷ bs) h = let p = or_parts (is_lf b) (holds_line_feed bs) h in rw (sum_by-cons (λ x. cond (is_lf x) 1 0) b bs, p.0) (omega (arith, no_feeds bs p.1))

one_feed : (a : LineItem) → holds_line_feed a.content ≡ false → (a.ending ≡ unended → ⊥) → count_by is_lf (item_bytes a) ≡ 1
one_feed a none some = feeds_append a.content (ending_bytes a.ending) ∙ by a.ending refl
  where
    by : (e : LineEnding) → a.ending ≡ e → count_by is_lf a.content + count_by is_lf (ending_bytes a.ending) ≡ 1
    by unended e = absurd (some e)
    by lf e = rw (e, no_feeds a.content none) refl
    by cr_lf e = rw (e, no_feeds a.content none) refl

two_feeds : (a b : LineItem) → count_by is_lf (item_bytes a) ≡ 1 → count_by is_lf (item_bytes b) ≡ 1 → count_by is_lf (piece_bytes (two_lines a b)) ≡ 2
two_feeds a b h k = ap (count_by is_lf) (append_assoc (item_bytes a) b.content (ending_bytes b.ending)) ∙ (feeds_append (item_bytes a) (item_bytes b) ∙ omega (arith, h, k))

-- ---- pieces

more_lines : (file : SourceFile) (p : Lines) (ps : List Lines) → count_by is_lf (piece_bytes p) ≡ piece_lines p → lines_of (map (file_item file) ps) ≡ line_feeds ps → lines_of (map (file_item file) (p ∷ ps)) ≡ line_feeds (p ∷ ps)
more_lines file p ps here rest =
    let lines = sum_by-cons (λ (item : FileItem). item.lines) (file_item file p) (map (file_item file) ps) in
    let feeds = ap (count_by is_lf) (flat_map-cons piece_bytes p ps) ∙ feeds_append (piece_bytes p) (flat_map piece_bytes ps) in
    lines ∙ (ap (λ n. n + lines_of (map (file_item file) ps)) (sym here) ∙ (ap (λ n. count_by is_lf (piece_bytes p) + n) rest ∙ sym feeds))

nothing : (above : List Lines) (piece : Lines) (below : List Lines) → [] ≡ above ++ piece ∷ below → ⊥
nothing [] piece below e = absurd cc
nothing (p ∷ ps) piece below e = absurd cc

counted : (file : SourceFile) (lines : List LineItem) (above : List Lines) (piece : Lines) (below : List Lines) → AreLines lines → pieces file lines ≡ above ++ piece ∷ below → lines_of (map (file_item file) above) ≡ line_feeds above
counted file lines [] piece below h e = refl
counted file [] (p ∷ ps) piece below h e = absurd cc
counted file (a ∷ []) (p ∷ ps) piece below h e = absurd (let tail : [] ≡ ps ++ piece ∷ below = cc in nothing ps piece below tail)
counted file (a ∷ b ∷ rest) (p ∷ ps) piece below h e = by (opens_range file a.content) (counted file rest ps piece below h.1.1) (counted file (b ∷ rest) ps piece below h.1) e
  where
    first : count_by is_lf (item_bytes a) ≡ 1
    first = one_feed a h.0.no_line_feed (λ u. absurd (let none : b ∷ rest ≡ [] = (h.0.last u).0 in cc))

    by : (t : Bool) → (pieces file rest ≡ ps ++ piece ∷ below → lines_of (map (file_item file) ps) ≡ line_feeds ps) → (pieces file (b ∷ rest) ≡ ps ++ piece ∷ below → lines_of (map (file_item file) ps) ≡ line_feeds ps) → cond t (two_lines a b ∷ pieces file rest) (one_line a ∷ pieces file (b ∷ rest)) ≡ p ∷ (ps ++ piece ∷ below) → lines_of (map (file_item file) (p ∷ ps)) ≡ line_feeds (p ∷ ps)
    by true two one e =
        let head : two_lines a b ≡ p = cc in
        let tail : pieces file rest ≡ ps ++ piece ∷ below = cc in
        let last = one_feed b h.1.0.no_line_feed (λ u. nothing ps piece below (sym (ap (pieces file) (h.1.0.last u).0) ∙ tail)) in
        subst (λ q. lines_of (map (file_item file) (q ∷ ps)) ≡ line_feeds (q ∷ ps)) head (more_lines file (two_lines a b) ps (two_feeds a b first last) (two tail))
    by false two one e =
        let head : one_line a ≡ p = cc in
        let tail : pieces file (b ∷ rest) ≡ ps ++ piece ∷ below = cc in
        subst (λ q. lines_of (map (file_item file) (q ∷ ps)) ≡ line_feeds (q ∷ ps)) head (more_lines file (one_line a) ps first (one tail))

-- ---- the lines of a text

pub lines_are_counted : NoLineFeedInside → OnlyTheLastIsUnended → EndingsAreToldApart → LinesAreCounted
lines_are_counted feeds ends told file bytes above piece below e = counted file (items_of bytes) above piece below (lines_behind bytes [] (items_of bytes) feeds ends told refl) e
