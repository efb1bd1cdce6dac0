-- The lines that a run prints, each ended by LF.
-- usage                    of words that have no listed form: it names the forms
use Rattle.std.specs.Prelude.{ℕ, List, ◌++◌, codes}
use Rattle.ucd_model.specs.DerivedText.{line_end}

abbrev pub usage : List ℕ
usage = codes "usage: ucdshop_look ask DATA SET .. | show DATA POINT .. | check DATA [SCRIPT [PREVIOUS]] | changes DATA SCRIPT" ++ line_end
