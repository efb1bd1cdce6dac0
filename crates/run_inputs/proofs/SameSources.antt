-- Two folders that hold the same source files.
use Rattle.std.proofs.Common.{◌≡◌, ℕ, ◌+◌, ◌<◌, Option, List, subst, ap}
use Rattle.ucd_points.specs.SourceFiles.{file_at, file_place-at}
use Rattle.ucd_points.specs.declared.files.SourceFile.{SourceFile}
use Rattle.run_endings.specs.Endings.{Seen}
use Rattle.run_inputs.specs.Held.{held_at, source_held}

-- they hold the same at each place
pub same_at : (held : Seen) (first second place : ℕ) → place < 9 → source_held held second ≡ source_held held first → held_at held (second + place) ≡ held_at held (first + place)
same_at held first second place lt same =
    subst (λ (at : ℕ). held_at held (second + at) ≡ held_at held (first + at)) (file_place-at place lt) (ap (λ (of : SourceFile → Option (List ℕ)). of (file_at place)) same)
