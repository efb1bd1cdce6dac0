use Rattle.std.proofs.Common.{◌≡◌, [], take, fold}
use Rattle.ucdshop_more_core.specs.Moves.{all_moves}
use Rattle.ucdshop_more_core.specs.Undoing.{after_move, course_of}
use Rattle.ucdshop_more_core.proofs.undo_session.make_moves.Given as goal

-- the course after the sections before this one
abbrev pub invariant-sections : goal.invariant-sections
invariant-sections g l =
    course_of l.history l.log ≡ fold after_move (course_of l.initial.history (record { text = []; accepted = 0; undone = 0; refused = 0 })) (all_moves (take l.section-index l.sections))
