use Rattle.std.proofs.Common.{◌≡◌, ◌≤◌, ◌<◌, ◌-◌, ℕ, true, length, get_or}
use Rattle.ucd_points.specs.Lines.{is_blank}
use Rattle.ucd_lines.proofs.blank.first_nonblank.Given as goal

-- what was passed is white space
abbrev pub invariant-blanks : goal.invariant-blanks
invariant-blanks l = (l.at ≤ length l.text) × ((j : ℕ) → j < l.at → is_blank (get_or l.text j 0) ≡ true)

abbrev pub decreases-blanks : goal.decreases-blanks
decreases-blanks l = length l.text - l.at
