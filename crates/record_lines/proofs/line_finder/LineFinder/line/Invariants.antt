use Rattle.std.proofs.Common.{◌≡◌, ◌-◌, ◌≤◌}
use Rattle.record_lines.proofs.line_finder.LineFinder.line.Given as goal

-- the line is not among those that were passed
abbrev pub invariant-lines : goal.invariant-lines
invariant-lines l = record {
  same : l.self.lines ≡ l.fn.self.lines;
  ahead : l.self.passed ≤ l.fn.place;
}

abbrev pub decreases-lines : goal.decreases-lines
decreases-lines l = l.fn.place - l.self.passed
