-- The moves of a script, made one after the other on a history.
-- undone_line line count    the line of the log for a group that was taken back: how many code points have another record
-- nothing_line line         the line for a mark where there was nothing to take back
-- Course                    the history as the moves so far leave it, the log, how many groups were accepted, how many were taken back,
--                           and how often a group was refused or there was nothing to take back
-- begun depth files         the course before its first move, on a history of these files that keeps so many earlier states
-- changed_count old new     how many code points have another record over these files
-- after_group s line answer the course with the answer of a group: an accepted one leaves its files, and those before them are the
--                           latest earlier state; a refused one leaves all as it is. Either has its line in the log and is counted
-- after_undo s line earlier the course after an undo, by the earlier states: the files of the latest one take the place of those now;
--                           where there is none, all is as it is. Either has its line in the log and is counted
-- after_move s move         the course after one more move, which is made on the history as it is then
-- course depth files moves  the course after all moves
-- course_of history log     the course that stands so: this history, and the log with its counts
use Rattle.std.specs.Prelude.{ℕ, ◌+◌, List, [], ◌∷◌, ◌++◌, length, Result, Ok, Err, codes, decimal, fold}
use Rattle.bench_undo.specs.Histories.{HistoryState, accepted, gone_back}
use Rattle.release_rows.specs.FileItems.{FileItem}
use Rattle.edit_session.specs.Groups.{changed, files_facts, group_answer}
use Rattle.edit_session.specs.declared.apply_stop.Refused.{Refused}
use Rattle.run_inputs.specs.GroupLines.{accepted_line, log_line, refused_line}
use Rattle.ucdshop_more_core.specs.Moves.{Move, Apply, TakeBack}
use Rattle.ucdshop_more_core.specs.declared.undo_log.UndoLog.{UndoLog}

-- ---- the log

abbrev pub undone_line : ℕ → ℕ → List ℕ
undone_line line count = log_line line (codes "undone " ++ decimal count)

abbrev pub nothing_line : ℕ → List ℕ
nothing_line line = log_line line (codes "nothing to undo")

-- ---- the course

pub record Course : Type 0 where
  pub history : HistoryState
  pub log : List ℕ
  pub accepted : ℕ
  pub undone : ℕ
  pub refused : ℕ

abbrev pub begun : ℕ → List (List FileItem) → Course
begun depth files = record { history = record { depth = depth; files = files; earlier = [] }; log = []; accepted = 0; undone = 0; refused = 0 }

abbrev pub changed_count : List (List FileItem) → List (List FileItem) → ℕ
changed_count old new = length (changed (files_facts old) (files_facts new))

abbrev pub after_group : Course → ℕ → Result (List (List FileItem)) Refused → Course
after_group s line (Ok files) = record {
  history = accepted s.history files;
  log = s.log ++ accepted_line line (changed_count s.history.files files);
  accepted = s.accepted + 1;
  undone = s.undone;
  refused = s.refused;
}
after_group s line (Err why) = record {
  history = s.history;
  log = s.log ++ refused_line line why;
  accepted = s.accepted;
  undone = s.undone;
  refused = s.refused + 1;
}

abbrev pub after_undo : Course → ℕ → List (List (List FileItem)) → Course
after_undo s line [] = record {
  history = s.history;
  log = s.log ++ nothing_line line;
  accepted = s.accepted;
  undone = s.undone;
  refused = s.refused + 1;
}
after_undo s line (files ∷ rest) = record {
  history = gone_back s.history files rest;
  log = s.log ++ undone_line line (changed_count s.history.files files);
  accepted = s.accepted;
  undone = s.undone + 1;
  refused = s.refused;
}

abbrev pub after_move : Course → Move → Course
after_move s (Apply line ops) = after_group s line (group_answer s.history.files ops)
after_move s (TakeBack line) = after_undo s line s.history.earlier

abbrev pub course : ℕ → List (List FileItem) → List Move → Course
course depth files moves = fold after_move (begun depth files) moves

-- ---- what the code keeps

abbrev pub course_of : HistoryState → UndoLog → Course
course_of history log = record { history = history; log = log.text; accepted = log.accepted; undone = log.undone; refused = log.refused }
