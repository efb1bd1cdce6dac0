-- Words on the file beside a name: in it stands what is to take the place of the file of that name.
--   beside path        the name beside a path, in the same folder
--   is_beside path     whether a path ends as such names do
--   IsName path        a path of a shelf is UTF-8, and is not beside another
--   IsShort path       the name beside a path is no longer than any name that a system takes
--   shown_of at path   the bytes of the file at a path; a file beside another is not shown
--   OnlyBoth path old new    every path but this one and the one beside it holds what it held
--   NothingNew path old new  this path holds nothing, or what it held
use Rattle.std.specs.Prelude.{ℕ, ◌≡◌, ◌≢◌, ◌≤◌, ◌⊎◌, Bool, false, IsUtf8, if◌then◌else◌, List, ◌++◌, Option, None, length, codes, eqb}
use Rattle.std.specs.List.{ends_with}
use Rattle.shelf_io.specs.Systems.{Entry, file_of}

abbrev pub beside : List ℕ → List ℕ
beside path = path ++ codes ".ucdshop-new"

abbrev pub is_beside : List ℕ → Bool
is_beside path = ends_with eqb path (codes ".ucdshop-new")

abbrev pub IsName : List ℕ → Type 0
IsName path = IsUtf8 path × (is_beside path ≡ false)

abbrev pub IsShort : List ℕ → Type 0
IsShort path = length (beside path) ≤ 4095

abbrev pub shown_of : (List ℕ → Entry) → List ℕ → Option (List ℕ)
shown_of at path = if is_beside path then None else file_of (at path)

abbrev pub OnlyBoth : List ℕ → (List ℕ → Option (List ℕ)) → (List ℕ → Option (List ℕ)) → Type 0
OnlyBoth path old new = (q : List ℕ) → q ≢ path → q ≢ beside path → new q ≡ old q

abbrev pub NothingNew : List ℕ → (List ℕ → Option (List ℕ)) → (List ℕ → Option (List ℕ)) → Type 0
NothingNew path old new = (new path ≡ None) ⊎ (new path ≡ old path)
