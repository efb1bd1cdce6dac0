-- The lines that a run prints, each ended by LF.
-- usage                    of words that have no listed form
-- Counts                   how many groups were accepted, commands refused and sets answered, and how many breaks of policies there
--                          are
-- summary counts           the line that says them
-- MadeCounts               of a release that was made: its number, how many rows its UnicodeData.txt has, how many groups of its
--                          script were accepted, how many code points these changed together, and how many code points have an
--                          NFKC_Casefold of their own afterwards
-- made_release number rows what it says of the release: the number, and how many rows UnicodeData.txt has
-- made_summary counts      the line that says them
use Rattle.std.specs.Prelude.{ℕ, List, ◌++◌, codes, decimal}
use Rattle.ucd_model.specs.DerivedText.{line_end}

abbrev pub usage : List ℕ
usage = codes "usage: ucdshop derive DATA OUT | apply DATA SCRIPT OUT [PREVIOUS] | make NUMBER OUT" ++ line_end

pub record Counts : Type 0 where
  pub accepted : ℕ
  pub refused : ℕ
  pub answered : ℕ
  pub broken : ℕ

abbrev pub summary : Counts → List ℕ
summary counts = codes "ucdshop: " ++ decimal counts.accepted ++ codes " groups accepted, " ++ decimal counts.refused ++ codes " commands refused, " ++ decimal counts.answered ++ codes " sets answered, " ++ decimal counts.broken ++ codes " policy breaks" ++ line_end

pub record MadeCounts : Type 0 where
  pub number : ℕ
  pub rows : ℕ
  pub accepted : ℕ
  pub changed : ℕ
  pub casefolds : ℕ

unfoldable pub made_release : ℕ → ℕ → List ℕ
made_release number rows = codes "ucdshop: make " ++ decimal number ++ codes ": " ++ decimal rows ++ codes " rows, "

abbrev pub made_summary : MadeCounts → List ℕ
made_summary counts = made_release counts.number counts.rows ++ decimal counts.accepted ++ codes " groups accepted, " ++ decimal counts.changed ++ codes " code points changed, " ++ decimal counts.casefolds ++ codes " casefold entries" ++ line_end
