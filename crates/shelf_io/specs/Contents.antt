-- Words on what a shelf holds, a function from a path to the bytes of its file, and on what was written.
--   SameContents old new           every path holds what it held
--   OnlyPath path old new          every other path than this one holds what it held
--   ReplacedAt path bytes old new  this path holds these bytes, and every other path what it held
--   AddsPrefix bytes old new       some prefix of the bytes was appended, at most all of them
use Rattle.std.specs.Prelude.{ℕ, ◌≡◌, ◌≢◌, ◌≤◌, List, ◌++◌, take, length, Option, Some}

abbrev pub SameContents : (List ℕ → Option (List ℕ)) → (List ℕ → Option (List ℕ)) → Type 0
SameContents old new = (q : List ℕ) → new q ≡ old q

abbrev pub OnlyPath : List ℕ → (List ℕ → Option (List ℕ)) → (List ℕ → Option (List ℕ)) → Type 0
OnlyPath path old new = (q : List ℕ) → q ≢ path → new q ≡ old q

abbrev pub ReplacedAt : List ℕ → List ℕ → (List ℕ → Option (List ℕ)) → (List ℕ → Option (List ℕ)) → Type 0
ReplacedAt path bytes old new = (new path ≡ Some bytes) × OnlyPath path old new

abbrev pub AddsPrefix : List ℕ → List ℕ → List ℕ → Type 0
AddsPrefix bytes old new = (k : ℕ) × (k ≤ length bytes) × (new ≡ old ++ take k bytes)
