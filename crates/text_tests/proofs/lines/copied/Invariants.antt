use Rattle.std.proofs.Common.{◌≡◌, ◌++◌}
use Rattle.ucd_points.specs.Lines.{joined}
use Rattle.text_tests.proofs.lines.copied.Given as goal

-- what was put together, behind it what the lines that are left give, is the whole
abbrev pub invariant-lines : goal.invariant-lines
invariant-lines l = l.text ++ joined l.item-iterator ≡ l.bytes
