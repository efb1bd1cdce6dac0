use Rattle.std.proofs.Common.{◌≡◌, ◌++◌, take}
use Rattle.ucd_facts.specs.RowTexts.{spaced}
use Rattle.label_runs.proofs.label.put_spaced.Given as goal

-- what stood there, and the code points so far
abbrev pub invariant-points : goal.invariant-points
invariant-points l = l.text ≡ l.fn.text ++ spaced (take l.point-index l.points)
