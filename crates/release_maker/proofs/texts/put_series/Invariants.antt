use Rattle.std.proofs.Common.{◌≡◌, ◌++◌}
use Rattle.release_maker.specs.MadeTexts.{series}
use Rattle.release_maker.specs.Lines.{line_of}
use Rattle.release_maker.proofs.texts.put_series.Given as goal

-- the lines of the numbers that were passed
abbrev pub invariant-lines : goal.invariant-lines
invariant-lines l = l.text ≡ l.initial.text ++ series (line_of l.line) l.i
