-- Reading the files that a run needs.
-- cut held               the bytes that are held, up to one more than a file may have
-- IsRead tells holds paths read   what was read is what was seen at the paths, each of them cut
-- text_at texts at       the text at a place, no bytes past the last
-- OnFailedAt result P    P of the place, where the path at that place could not be read
-- OnOneFailed result P   P, where the path could not be read
use Rattle.std.specs.Prelude.{◌≡◌, ℕ, ◌+◌, Bool, List, [], take, map, Option, Result, Ok, Err, ⊤, slice_index_or, option_map}
use Rattle.ucd_points.specs.Limits.{file_limit}
use Rattle.shelf_io.specs.declared.shelf.ReadStop.{ReadStop}
use Rattle.shelf_io.specs.declared.shelf.ReadStop.TheVariants as one
use Rattle.run_endings.specs.Endings.{Contents, Seen, Sees}
use Rattle.run_endings.specs.declared.reading.ReadingStop.{ReadingStop}
use Rattle.run_endings.specs.declared.reading.ReadingStop.TheVariants.{FailedAt, Memory}

abbrev pub cut : Option (List ℕ) → Option (List ℕ)
cut held = option_map (take (file_limit + 1)) held

abbrev pub IsRead : Bool → Contents → List (List ℕ) → Seen → Type 0
IsRead tells holds paths read = Sees tells holds paths (λ seen. read ≡ map cut seen)

abbrev pub text_at : List (List ℕ) → ℕ → List ℕ
text_at texts at = slice_index_or texts at []

abbrev pub OnFailedAt : {A : Type 0} → Result A ReadingStop → (ℕ → Type 0) → Type 0
OnFailedAt (Ok _) P = ⊤
OnFailedAt (Err (FailedAt at)) P = P at
OnFailedAt (Err Memory) P = ⊤

abbrev pub OnOneFailed : {A : Type 0} → Result A ReadStop → Type 0 → Type 0
OnOneFailed (Ok _) P = ⊤
OnOneFailed (Err one.Failed) P = P
OnOneFailed (Err one.Memory) P = ⊤
