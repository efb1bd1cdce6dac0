-- Where files lie below a folder.
-- path_in folder path      the folder, `/`, and the path
use Rattle.std.specs.Prelude.{ℕ, List, ◌++◌, codes}

abbrev pub path_in : List ℕ → List ℕ → List ℕ
path_in folder path = folder ++ codes "/" ++ path
