-- Files, cut before each mark.
--
-- Lines: `add A`, `@ open 1`, `@ leave 1`, `# @`, ` @`.
use Rattle.std.proofs.Common.{◌≡◌, ℕ, List, [], ◌∷◌, Some, None, refl, codes}
use Rattle.ucd_points.specs.Lines.{LineItem, lf, unended, cr_lf}
use Rattle.script_pieces.specs.Pieces.{pieces_from}

abbrev ended : List ℕ → LineItem
ended content = record { content = content; ending = lf }

-- what stands before the first mark is a piece without one; a mark that another follows has no bytes
a_file : pieces_from None 1 (ended (codes "add A") ∷ ended (codes "@ open 1") ∷ ended (codes "@ leave 1") ∷ ended (codes "# @") ∷ record { content = codes " @"; ending = unended } ∷ [])
    ≡ record { mark = None; first_line = 1; body = codes "add A\n" }
    ∷ record { mark = Some (record { line = 2; content = codes "@ open 1" }); first_line = 3; body = [] }
    ∷ record { mark = Some (record { line = 3; content = codes "@ leave 1" }); first_line = 4; body = codes "# @\n @" } ∷ []
a_file = refl

-- a file without lines has one piece without bytes; a CR before LF is no part of a mark
no_lines : pieces_from None 1 [] ≡ record { mark = None; first_line = 1; body = [] } ∷ []
no_lines = refl

other_ending : pieces_from None 7 (record { content = codes "@"; ending = cr_lf } ∷ [])
    ≡ record { mark = None; first_line = 7; body = [] } ∷ record { mark = Some (record { line = 7; content = codes "@" }); first_line = 8; body = [] } ∷ []
other_ending = refl
