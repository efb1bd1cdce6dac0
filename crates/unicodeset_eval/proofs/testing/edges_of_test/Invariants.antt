use Rattle.std.proofs.Common.{◌≡◌, ◌++◌, Bool, drop, map}
use Rattle.ucd_points.specs.Limits.{point_count}
use Rattle.ucd_model.specs.Records.{Record}
use Rattle.unicodeset_eval.specs.RecordPieces.{SaysAs, piece_turns, piece_value}
use Rattle.unicodeset_eval.proofs.testing.edges_of_test.Given as goal

-- the edges so far, and those of what is left, are those of the whole
abbrev pub invariant-pieces : goal.invariant-pieces
invariant-pieces g l =
    (f : Record → Bool) → SaysAs (goal.F-post g l.says) f
    → l.edges.items ++ piece_turns point_count f l.inside (map piece_value (drop l.piece-index l.pieces)) ≡ piece_turns point_count f l.has_zero (map piece_value l.pieces)
