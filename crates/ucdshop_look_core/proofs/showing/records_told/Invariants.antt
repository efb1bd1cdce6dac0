use Rattle.std.proofs.Common.{◌≡◌, map, take}
use Rattle.ucdshop_look_core.specs.Points.{points_in}
use Rattle.ucdshop_look_core.specs.Shown.{record_told}
use Rattle.ucdshop_look_core.proofs.showing.records_told.Given as goal

-- the records of the code points that the words so far name
abbrev pub invariant-words : goal.invariant-words
invariant-words l = l.told.items ≡ map (record_told l.bench.current) (points_in (take l.word-index l.words))
