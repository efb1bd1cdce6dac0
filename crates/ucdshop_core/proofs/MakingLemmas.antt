-- How many rows there are.
use Rattle.std.proofs.Common.{◌≡◌, ℕ, List, length, map, sym, ap, ◌∙◌}
use Rattle.std.proofs.lemmas.List.{length-map}
use Rattle.release_rows.specs.FileItems.{FileItem, rows_in, Row}
use Rattle.release_rows.specs.FileLemmas.{rows_of_numbered}
use Rattle.release_rows.specs.Releases.{rows_at}

-- there are as many rows with a number as without
pub numbered_count : (items : List FileItem) → length (rows_at items) ≡ length (rows_in items)
numbered_count items =
    let same : length (map (λ (n : ℕ × Row). n.1) (rows_at items)) ≡ length (rows_at items) = length-map (rows_at items) (λ (n : ℕ × Row). n.1) in
    sym same ∙ ap length (rows_of_numbered 1 items)
