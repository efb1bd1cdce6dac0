use Rattle.std.proofs.Common.{◌≡◌, map, take, fold}
use Rattle.ucdshop_more_core.specs.Moves.{group_move}
use Rattle.ucdshop_more_core.specs.Undoing.{after_move, course_of}
use Rattle.ucdshop_more_core.proofs.undo_session.carry_groups.Given as goal

-- the course after the groups before this one
abbrev pub invariant-commands : goal.invariant-commands
invariant-commands g l = course_of l.history l.log ≡ fold after_move (course_of l.initial.history l.initial.log) (map group_move (take l.command-index l.commands))
