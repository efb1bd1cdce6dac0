-- The items of a loaded file are sound, and so are those after an operation.
use Rattle.std.proofs.Common.{◌≡◌, ℕ, Bool, true, false, cond, List, [], ◌∷◌, ◌++◌, map, refl, subst, ◌∙◌, append_assoc, All}
use Rattle.std.proofs.lemmas.List.Elements.{All-nil, All-cons}
use Rattle.ucd_lines.specs.Laws.{AreLines, NoLineFeedInside, OnlyTheLastIsUnended, EndingsAreToldApart, lines_behind}
use Rattle.ucd_points.specs.Lines.{LineItem, LineEnding, unended, lf, cr_lf, ends_in_return, item_bytes, items_of}
use Rattle.release_rows.specs.Cuts.{IsToldApart}
use Rattle.release_rows.specs.Laws.{LoadedFilesAreSound}
use Rattle.release_rows.specs.Loading.{file_item, file_or_fault, first_fault}
use Rattle.release_rows.specs.Pieces.{one_line, opens_range, pieces, two_lines}
use Rattle.release_rows.specs.Releases.{AreSound, FileItem, SourceFile}
use Rattle.release_rows.proofs.Cuts.{pieces_cut}
use Rattle.release_rows.proofs.Kept.{kept_below, ok_by}
use Rattle.release_rows.proofs.Loads.{pieces_ascend}
use Rattle.release_rows.proofs.Operations.{all_read}
use Rattle.release_rows.proofs.Reload.{ends_behind}

-- ---- the lines of a text

-- ---- what LF alone ends

some_or_none : (ys : List ℕ) → ends_in_return ys ≡ false → (a : LineItem) → (a.ending ≡ unended → ⊥) → ends_in_return (item_bytes a ++ ys) ≡ false
some_or_none (y ∷ ys) h a some = ends_behind (item_bytes a) (y ∷ ys) (λ e. absurd cc) ∙ h
some_or_none [] h a some = by a.ending refl
  where
    by : (e : LineEnding) → a.ending ≡ e → ends_in_return (item_bytes a ++ []) ≡ false
    by unended e = absurd (some e)
    by lf e = rw (e, append_assoc a.content (10 ∷ []) []) (ends_behind a.content (10 ∷ []) (λ k. absurd cc))
    by cr_lf e = rw (e, append_assoc a.content (13 ∷ 10 ∷ []) []) (ends_behind a.content (13 ∷ 10 ∷ []) (λ k. absurd cc))

pieces_told : (file : SourceFile) (lines : List LineItem) → AreLines lines → All IsToldApart (map (file_item file) (pieces file lines))
pieces_told file [] h = All-nil IsToldApart
pieces_told file (a ∷ []) h = All-cons IsToldApart (file_item file (one_line a)) [] h.0.no_return (All-nil IsToldApart)
pieces_told file (a ∷ b ∷ rest) h = by (opens_range file a.content) (pieces_told file rest h.1.1) (pieces_told file (b ∷ rest) h.1)
  where
    ended : a.ending ≡ unended → ⊥
    ended e = absurd (let none : b ∷ rest ≡ [] = (h.0.last e).0 in cc)

    by : (t : Bool) → All IsToldApart (map (file_item file) (pieces file rest)) → All IsToldApart (map (file_item file) (pieces file (b ∷ rest))) → All IsToldApart (map (file_item file) (cond t (two_lines a b ∷ pieces file rest) (one_line a ∷ pieces file (b ∷ rest))))
    by true two one = All-cons IsToldApart (file_item file (two_lines a b)) (map (file_item file) (pieces file rest)) (λ e. some_or_none b.content (h.1.0.no_return e) a ended) two
    by false two one = All-cons IsToldApart (file_item file (one_line a)) (map (file_item file) (pieces file (b ∷ rest))) h.0.no_return one

pub loaded_files_are_sound : NoLineFeedInside → OnlyTheLastIsUnended → EndingsAreToldApart → LoadedFilesAreSound
unfolding file_or_fault
loaded_files_are_sound feeds ends told file bytes items h =
    let ps = pieces file (items_of bytes) in
    let parts = ok_by (first_fault file [] ps) items (map (file_item file) ps) h in
    let lines = lines_behind bytes [] (items_of bytes) feeds ends told refl in
    let kept = kept_below file [] ps parts.0 in
    let sound : AreSound file (map (file_item file) ps) = record { kept = kept; ascends = pieces_ascend file ps parts.0; cut = pieces_cut file (items_of bytes) lines (all_read file [] (map (file_item file) ps) kept) } in
    subst (λ (is : List FileItem). AreSound file is × All IsToldApart is) parts.1 (sound, pieces_told file (items_of bytes) lines)
