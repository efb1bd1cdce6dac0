-- The ages as a table keeps them: numbers from 1, and 0 for none.
-- aged release n values c         n where c is assigned in the release and has no number; else its number
-- aged_before release n end values c   so it is before `end`; from there on the numbers are the old ones
use Rattle.std.specs.Prelude.{ℕ, ◌&&◌, ◌==◌, nat_lt, if◌then◌else◌}
use Rattle.release_rows.specs.Releases.{ReleaseItems}
use Rattle.age_chain.specs.Ages.{is_assigned}

abbrev pub aged : ReleaseItems → ℕ → (ℕ → ℕ) → ℕ → ℕ
aged release n values c = if is_assigned release c && (values c == 0) then n else values c

abbrev pub aged_before : ReleaseItems → ℕ → ℕ → (ℕ → ℕ) → ℕ → ℕ
aged_before release n end values c = if nat_lt c end then aged release n values c else values c
