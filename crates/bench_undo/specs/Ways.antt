-- Ways back, one behind the other.
-- states ways files     the states to which the first way, the first two, and so on lead back from the files
-- AreWays ways files    each is a way back to valid rows, from where those before it lead
use Rattle.std.specs.Prelude.{List, [], ◌∷◌}
use Rattle.release_rows.specs.FileItems.{FileItem}
use Rattle.release_rows.specs.Patches.{SpliceItems, back}
use Rattle.edit_session.specs.Reverts.{IsValidWayBack}

abbrev pub states : List (List SpliceItems) → List (List FileItem) → List (List (List FileItem))
states [] files = []
states (way ∷ ways) files = back way files ∷ states ways (back way files)

abbrev pub AreWays : List (List SpliceItems) → List (List FileItem) → Type 0
AreWays [] files = Unit {0}
AreWays (way ∷ ways) files = IsValidWayBack way files × AreWays ways (back way files)
