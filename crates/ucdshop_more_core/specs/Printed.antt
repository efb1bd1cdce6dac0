-- The lines that a run prints, each ended by LF.
-- forms                    the forms of the words, in order
-- barred texts             the texts, with a space, a bar and a space between two of them
-- usage                    of words that have no listed form: it names the forms
-- desk_summary accepted refused   the line that says how many groups were carried out at a desk, and how often an editor was turned away
-- undo_summary accepted undone   the line that says how many groups were carried out on a history, and how many were taken back
-- conform_summary cases misses   the line that says how many cases there are, and how many misses
-- AgeCounts                how many releases there are, how many code points have an age, and how many breaks of policies all steps
--                          have
-- ages_summary counts      the line that says them
use Rattle.std.specs.Prelude.{ℕ, List, [], ◌∷◌, ◌++◌, codes, decimal}
use Rattle.ucd_model.specs.DerivedText.{line_end}

abbrev pub forms : List (List ℕ)
forms = codes "desk DATA EVENTS OUT" ∷ codes "undo DATA SCRIPT OUT DEPTH" ∷ codes "conform DATA TESTS OUT" ∷ codes "ages OUT DATA1 .. DATAn" ∷ []

abbrev pub barred : List (List ℕ) → List ℕ
barred [] = []
barred (text ∷ []) = text
barred (text ∷ next ∷ later) = text ++ codes " | " ++ barred (next ∷ later)

abbrev pub usage : List ℕ
usage = codes "usage: ucdshop_more " ++ barred forms ++ line_end

abbrev pub desk_summary : ℕ → ℕ → List ℕ
desk_summary accepted refused = codes "desk: " ++ decimal accepted ++ codes " accepted, " ++ decimal refused ++ codes " refused" ++ line_end

abbrev pub undo_summary : ℕ → ℕ → List ℕ
undo_summary accepted undone = codes "undo: " ++ decimal accepted ++ codes " accepted, " ++ decimal undone ++ codes " undone" ++ line_end

abbrev pub conform_summary : ℕ → ℕ → List ℕ
conform_summary cases misses = codes "conform: " ++ decimal cases ++ codes " cases, " ++ decimal misses ++ codes " misses" ++ line_end

pub record AgeCounts : Type 0 where
  pub releases : ℕ
  pub points : ℕ
  pub breaks : ℕ

abbrev pub ages_summary : AgeCounts → List ℕ
ages_summary counts = codes "ages: " ++ decimal counts.releases ++ codes " releases, " ++ decimal counts.points ++ codes " code points, " ++ decimal counts.breaks ++ codes " breaks" ++ line_end
