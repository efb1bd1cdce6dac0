-- The pieces have all lines, in order, each lies in its file, and they are few.
use Rattle.std.proofs.Common.{◌≡◌, ◌≤◌, ℕ, ◌+◌, Bool, true, false, List, [], ◌∷◌, length, map, refl, ap, ◌∙◌, arith, All, flat_map, if◌then◌else◌}
use Rattle.std.proofs.lemmas.Grind.{flat_map-append}
use Rattle.std.proofs.lemmas.List.{length-append, length-map}
use Rattle.std.proofs.lemmas.List.Elements.{All-cons, All-nil}
use Rattle.ucd_points.specs.Lines.{LineItem, item_bytes, items_of, joined}
use Rattle.ucd_lines.specs.Laws.{AreLines, EndingsAreToldApart, ItemsJoin, NoLineFeedInside, OnlyTheLastIsUnended, lines_behind}
use Rattle.script_pieces.specs.Pieces.{Cut, FitsBelow, Marked, cut, cut_lines, is_mark, marked_piece, PiecesAreFew, PiecesAreWhole, PieceLineNumbersFit}
use Rattle.script_pieces.proofs.CutLemmas.{some_bytes}

put_before : (n : ℕ) (line : LineItem) (behind : Cut) (t : Bool)
    → cut_lines (if t then record { front = []; marked = record { number = n; mark = line; lines = behind.front } ∷ behind.marked } else record { front = line ∷ behind.front; marked = behind.marked }) ≡ line ∷ cut_lines behind
put_before n line behind true = refl
put_before n line behind false = refl

pub all_lines : (n : ℕ) (lines : List LineItem) → cut_lines (cut n lines) ≡ lines
all_lines n [] = refl
all_lines n (line ∷ lines) = put_before n line (cut (n + 1) lines) (is_mark line) ∙ ap (λ (rest : List LineItem). line ∷ rest) (all_lines (n + 1) lines)

pub pieces_are_whole : ItemsJoin → PiecesAreWhole
pieces_are_whole join n bytes = ap joined (all_lines n (items_of bytes)) ∙ join bytes

-- ---- each lies in its file

front_within : (it : Cut) (lines : List LineItem) → cut_lines it ≡ lines → length (joined it.front) ≤ length (joined lines)
front_within it lines is =
    let marked : List LineItem = flat_map (λ (m : Marked). m.mark ∷ m.lines) it.marked in
    omega (arith, ap (λ (all : List LineItem). length (joined all)) is, ap length (flat_map-append item_bytes it.front marked), length-append (joined it.front) (joined marked))

abbrev marked_in : Cut → List Marked
marked_in it = it.marked

fits_by : (most n : ℕ) (line : LineItem) (behind : Cut) (t : Bool) → n + 1 + length (joined behind.front) ≤ most → All (FitsBelow most) (map marked_piece behind.marked)
    → All (FitsBelow most) (map marked_piece (marked_in (if t then record { front = []; marked = record { number = n; mark = line; lines = behind.front } ∷ behind.marked } else record { front = line ∷ behind.front; marked = behind.marked })))
fits_by most n line behind true fits rest = All-cons (FitsBelow most) _ _ fits rest
fits_by most n line behind false fits rest = rest

marked_fit : (most n : ℕ) (lines : List LineItem) → AreLines lines → n + length (joined lines) ≤ most → All (FitsBelow most) (map marked_piece (cut n lines).marked)
marked_fit most n [] are fits = All-nil (FitsBelow most)
marked_fit most n (line ∷ lines) are fits =
    let behind : n + 1 + length (joined lines) ≤ most = omega (arith, fits, some_bytes line lines are.0, length-append (item_bytes line) (joined lines)) in
    fits_by most n line (cut (n + 1) lines) (is_mark line) (omega (arith, behind, front_within (cut (n + 1) lines) lines (all_lines (n + 1) lines)))
    (marked_fit most (n + 1) lines are.1 behind)

pub pieces_fit : ItemsJoin → NoLineFeedInside → OnlyTheLastIsUnended → EndingsAreToldApart → PieceLineNumbersFit
pieces_fit join feeds ends told bytes =
    let lines : List LineItem = items_of bytes in
    let same : length (joined lines) ≡ length bytes = ap length (join bytes) in
    let front : length (joined (cut 1 lines).front) ≤ length (joined lines) = front_within (cut 1 lines) lines (all_lines 1 lines) in
    All-cons (FitsBelow (1 + length bytes)) _ _ (omega (arith, same, front))
    (marked_fit (1 + length bytes) 1 lines (lines_behind bytes [] lines feeds ends told refl) (omega (arith, same)))

-- ---- they are few

few_lines : (lines : List LineItem) → AreLines lines → length lines ≤ length (joined lines)
few_lines [] are = omega arith
few_lines (line ∷ lines) are = omega (arith, some_bytes line lines are.0, few_lines lines are.1, length-append (item_bytes line) (joined lines))

few_by : (n : ℕ) (line : LineItem) (behind : Cut) (t : Bool)
    → length (marked_in (if t then record { front = []; marked = record { number = n; mark = line; lines = behind.front } ∷ behind.marked } else record { front = line ∷ behind.front; marked = behind.marked }))
    ≤ 1 + length behind.marked
few_by n line behind true = omega arith
few_by n line behind false = omega arith

few_marked : (n : ℕ) (lines : List LineItem) → length (cut n lines).marked ≤ length lines
few_marked n [] = omega arith
few_marked n (line ∷ lines) = omega (arith, few_by n line (cut (n + 1) lines) (is_mark line), few_marked (n + 1) lines)

pub pieces_are_few : ItemsJoin → NoLineFeedInside → OnlyTheLastIsUnended → EndingsAreToldApart → PiecesAreFew
pieces_are_few join feeds ends told bytes =
    let lines : List LineItem = items_of bytes in
    omega (arith, few_lines lines (lines_behind bytes [] lines feeds ends told refl), ap length (join bytes), few_marked 1 lines, length-map (cut 1 lines).marked marked_piece)
