-- What a run makes before it writes, by its job.
-- CountsRows made rows files      where a release is made, UnicodeData.txt has so many rows among these files
use Rattle.std.specs.Prelude.{◌≡◌, ℕ, List, Option, Some, None, ⊤}
use Rattle.release_rows.specs.FileItems.{FileItem}
use Rattle.ucdshop_jobs.specs.Making.{data_rows}

abbrev pub CountsRows : Option ℕ → ℕ → List (List FileItem) → Type 0
CountsRows None rows files = ⊤
CountsRows (Some number) rows files = rows ≡ data_rows files
