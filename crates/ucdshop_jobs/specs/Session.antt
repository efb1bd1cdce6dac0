-- The commands of a script, carried out one after the other on the files of a release.
-- set_line line count       of a question that was answered: how many code points are members
-- unasked_line line fault   the line that says it
-- Session                   the files as the commands so far leave them, the log, the answers to the questions, how many groups were
--                           accepted, how many code points have another record after each of these, added up, how many commands
--                           were refused, and questions answered
-- changed_count old new     how many code points have another record over these files
-- started files             the session before its first command
-- after_group s line answer the session with the answer of a group: the files of an accepted group take the place of those now, a
--                           refused one leaves them; either has its line in the log and is counted
-- after_question s line answer   the session with the answer to a question, which leaves the files; either has its line in the log
--                           and is counted, and the members that are answered are a section of the answers
-- step s command            the session after one more command, which is answered on the files as they are then
-- session files commands    the session after all commands
use Rattle.std.specs.Prelude.{ℕ, ◌+◌, List, [], ◌++◌, length, Result, Ok, Err, codes, decimal, fold}
use Rattle.ucd_points.specs.Bounds.{Bounds}
use Rattle.release_rows.specs.FileItems.{FileItem}
use Rattle.script_lines.specs.declared.command.Command.{Command}
use Rattle.script_lines.specs.declared.command.What.{What}
use Rattle.script_lines.specs.declared.command.What.TheVariants.{Group, Question}
use Rattle.edit_session.specs.Groups.{changed, files_facts, group_answer}
use Rattle.edit_session.specs.declared.apply_stop.Refused.{Refused}
use Rattle.run_inputs.specs.GroupLines.{accepted_line, log_line, refused_line}
use Rattle.set_answers.specs.Questions.{question_answer}
use Rattle.set_answers.specs.Refusals.{unasked_text}
use Rattle.set_answers.specs.SetTexts.{members_in, set_section}
use Rattle.set_answers.specs.declared.ask_stop.AskFault.{AskFault}

-- ---- the log

abbrev pub set_line : ℕ → ℕ → List ℕ
set_line line count = log_line line (codes "set " ++ decimal count)

abbrev pub unasked_line : ℕ → AskFault → List ℕ
unasked_line line fault = log_line line (unasked_text fault)

-- ---- the session

pub record Session : Type 0 where
  pub files : List (List FileItem)
  pub log : List ℕ
  pub sets : List ℕ
  pub accepted : ℕ
  pub changed : ℕ
  pub refused : ℕ
  pub answered : ℕ

abbrev pub started : List (List FileItem) → Session
started files = record { files = files; log = []; sets = []; accepted = 0; changed = 0; refused = 0; answered = 0 }

abbrev pub changed_count : List (List FileItem) → List (List FileItem) → ℕ
changed_count old new = length (changed (files_facts old) (files_facts new))

abbrev pub after_group : Session → ℕ → Result (List (List FileItem)) Refused → Session
after_group s line (Ok files) = record {
  files = files;
  log = s.log ++ accepted_line line (changed_count s.files files);
  sets = s.sets;
  accepted = s.accepted + 1;
  changed = s.changed + changed_count s.files files;
  refused = s.refused;
  answered = s.answered;
}
after_group s line (Err why) = record {
  files = s.files;
  log = s.log ++ refused_line line why;
  sets = s.sets;
  accepted = s.accepted;
  changed = s.changed;
  refused = s.refused + 1;
  answered = s.answered;
}

abbrev pub after_question : Session → ℕ → Result (List Bounds) AskFault → Session
after_question s line (Ok spans) = record {
  files = s.files;
  log = s.log ++ set_line line (members_in spans);
  sets = s.sets ++ set_section line spans;
  accepted = s.accepted;
  changed = s.changed;
  refused = s.refused;
  answered = s.answered + 1;
}
after_question s line (Err fault) = record {
  files = s.files;
  log = s.log ++ unasked_line line fault;
  sets = s.sets;
  accepted = s.accepted;
  changed = s.changed;
  refused = s.refused + 1;
  answered = s.answered;
}

abbrev pub step_by : Session → ℕ → What → Session
step_by s line (Group ops) = after_group s line (group_answer s.files ops)
step_by s line (Question text) = after_question s line (question_answer s.files text)

abbrev pub step : Session → Command → Session
step s command = step_by s command.line command.what

abbrev pub session : List (List FileItem) → List Command → Session
session files commands = fold step (started files) commands
