use Rattle.std.proofs.Common.{◌≡◌, ◌≤◌, ◌<◌, ℕ, true, length, get_or}
use Rattle.ucd_points.specs.Lines.{is_blank}
use Rattle.ucd_lines.proofs.blank.end_of_last_nonblank.Given as goal

-- what was passed is white space
abbrev pub invariant-blanks : goal.invariant-blanks
invariant-blanks l = (l.end ≤ length l.text) × ((j : ℕ) → l.end ≤ j → j < length l.text → is_blank (get_or l.text j 0) ≡ true)

abbrev pub decreases-blanks : goal.decreases-blanks
decreases-blanks l = l.end
