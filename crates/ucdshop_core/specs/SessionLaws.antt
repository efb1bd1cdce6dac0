-- A refused command changes nothing, and its line in the log says why.
-- IsRefusedOn files what said   what a command asks for is refused on these files, and this is said of it: the rule, with the operation,
--                          the code point or the byte
-- with_refusal s line said   the session with one more line in the log and one more refusal; all else is as it was
-- RefusalsChangeNothing    so is the session after a refused command
-- SameButTold a b          the sessions have the same files and answers, and the same counts but that of refusals
-- RefusalsAreLeftOut       if a refused command is left out, the files and answers stay the same, and the counts but that of refusals
use Rattle.std.specs.Prelude.{◌≡◌, ℕ, ◌+◌, List, ◌∷◌, ◌++◌, Err}
use Rattle.release_rows.specs.FileItems.{FileItem}
use Rattle.script_lines.specs.declared.command.Command.{Command}
use Rattle.script_lines.specs.declared.command.What.{What}
use Rattle.script_lines.specs.declared.command.What.TheVariants.{Group, Question}
use Rattle.edit_session.specs.Groups.{group_answer}
use Rattle.edit_session.specs.declared.apply_stop.Refused.{Refused}
use Rattle.set_answers.specs.Questions.{question_answer}
use Rattle.run_inputs.specs.GroupLines.{log_line, refusal_text}
use Rattle.ucdshop_jobs.specs.Session.{Session, step, session}
use Rattle.set_answers.specs.Refusals.{unasked_text}
use Rattle.set_answers.specs.declared.ask_stop.AskFault.{AskFault}

abbrev pub IsRefusedOn : List (List FileItem) → What → List ℕ → Type 0
IsRefusedOn files (Group ops) said = (why : Refused) × (group_answer files ops ≡ Err why) × (said ≡ refusal_text why)
IsRefusedOn files (Question text) said = (fault : AskFault) × (question_answer files text ≡ Err fault) × (said ≡ unasked_text fault)

abbrev pub with_refusal : Session → ℕ → List ℕ → Session
with_refusal s line said = record {
  files = s.files;
  log = s.log ++ log_line line said;
  sets = s.sets;
  accepted = s.accepted;
  changed = s.changed;
  refused = s.refused + 1;
  answered = s.answered;
}

abbrev pub RefusalsChangeNothing : Type 0
RefusalsChangeNothing = (s : Session) (command : Command) (said : List ℕ) → IsRefusedOn s.files command.what said → step s command ≡ with_refusal s command.line said

pub record SameButTold (a b : Session) : Type 0 where
  pub files : a.files ≡ b.files
  pub sets : a.sets ≡ b.sets
  pub accepted : a.accepted ≡ b.accepted
  pub changed : a.changed ≡ b.changed
  pub answered : a.answered ≡ b.answered

abbrev pub RefusalsAreLeftOut : Type 0
RefusalsAreLeftOut = (files : List (List FileItem)) (front : List Command) (command : Command) (behind : List Command) (said : List ℕ)
    → IsRefusedOn (session files front).files command.what said → SameButTold (session files (front ++ command ∷ behind)) (session files (front ++ behind))
