-- Where the files that this program writes lie below a folder.
-- desk_log_in folder       the path of the log of a desk below a folder
-- undo_log_in folder       the path of the log of a history below a folder
-- misses_in folder         the path of what is missed, below a folder
-- ages_in folder           the path of the ages below a folder
-- steps_in folder          the path of the steps from release to release below a folder
use Rattle.std.specs.Prelude.{ℕ, List, codes}
use Rattle.run_endings.specs.Paths.{path_in}

abbrev pub desk_log_in : List ℕ → List ℕ
desk_log_in folder = path_in folder (codes "desk.log")

abbrev pub undo_log_in : List ℕ → List ℕ
undo_log_in folder = path_in folder (codes "undo.log")

abbrev pub misses_in : List ℕ → List ℕ
misses_in folder = path_in folder (codes "conform.txt")

abbrev pub ages_in : List ℕ → List ℕ
ages_in folder = path_in folder (codes "DerivedAge.txt")

abbrev pub steps_in : List ℕ → List ℕ
steps_in folder = path_in folder (codes "steps.txt")
