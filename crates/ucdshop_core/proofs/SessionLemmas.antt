-- A refused command changes nothing but the log and the count of refusals.
use Rattle.std.proofs.Common.{◌≡◌, ℕ, ◌+◌, List, [], ◌∷◌, ◌++◌, Result, Ok, Err, fold, refl, sym, ap, subst, ◌∙◌}
use Rattle.std.proofs.lemmas.List.Sums.{fold-append}
use Rattle.release_rows.specs.FileItems.{FileItem}
use Rattle.script_lines.specs.declared.command.Command.{Command}
use Rattle.script_lines.specs.declared.command.What.{What}
use Rattle.script_lines.specs.declared.command.What.TheVariants.{Group, Question}
use Rattle.edit_session.specs.Groups.{group_answer}
use Rattle.edit_session.specs.declared.apply_stop.Refused.{Refused}
use Rattle.ucd_points.specs.Bounds.{Bounds}
use Rattle.set_answers.specs.Questions.{question_answer}
use Rattle.ucdshop_jobs.specs.Session.{Session, after_group, after_question, changed_count, started, step, step_by, session}
use Rattle.ucdshop_core.specs.SessionLaws.{IsRefusedOn, with_refusal, SameButTold, RefusalsChangeNothing, RefusalsAreLeftOut}
use Rattle.set_answers.specs.SetTexts.{set_section}
use Rattle.set_answers.specs.declared.ask_stop.AskFault.{AskFault}

refused_by : (s : Session) (line : ℕ) (what : What) (said : List ℕ) → IsRefusedOn s.files what said → step_by s line what ≡ with_refusal s line said
refused_by s line (Group ops) said h = rw (h.1, h.2) refl
refused_by s line (Question text) said h = rw (h.1, h.2) refl

pub refusals_change_nothing : RefusalsChangeNothing
refusals_change_nothing s command said h = refused_by s command.line command.what said h

same_after_group : (a b : Session) (line : ℕ) (r : Result (List (List FileItem)) Refused) → SameButTold a b → SameButTold (after_group a line r) (after_group b line r)
same_after_group a b line (Ok files) h = record {
  files = refl;
  sets = h.sets;
  accepted = ap (λ n. n + 1) h.accepted;
  changed = ap (λ n. n + changed_count a.files files) h.changed ∙ ap (λ old. b.changed + changed_count old files) h.files;
  answered = h.answered;
}
same_after_group a b line (Err why) h = record { files = h.files; sets = h.sets; accepted = h.accepted; changed = h.changed; answered = h.answered }

same_after_question : (a b : Session) (line : ℕ) (r : Result (List Bounds) AskFault) → SameButTold a b → SameButTold (after_question a line r) (after_question b line r)
same_after_question a b line (Ok spans) h = record {
  files = h.files;
  sets = ap (λ sets. sets ++ set_section line spans) h.sets;
  accepted = h.accepted;
  changed = h.changed;
  answered = ap (λ n. n + 1) h.answered;
}
same_after_question a b line (Err fault) h = record { files = h.files; sets = h.sets; accepted = h.accepted; changed = h.changed; answered = h.answered }

same_by : (a b : Session) (line : ℕ) (what : What) → SameButTold a b → SameButTold (step_by a line what) (step_by b line what)
same_by a b line (Group ops) h =
    subst (λ (r : Result (List (List FileItem)) Refused). SameButTold (step_by a line (Group ops)) (after_group b line r))
    (ap (λ files. group_answer files ops) h.files) (same_after_group a b line (group_answer a.files ops) h)
same_by a b line (Question text) h =
    subst (λ (r : Result (List Bounds) AskFault). SameButTold (step_by a line (Question text)) (after_question b line r))
    (ap (λ files. question_answer files text) h.files) (same_after_question a b line (question_answer a.files text) h)

same_folds : (commands : List Command) (a b : Session) → SameButTold a b → SameButTold (fold step a commands) (fold step b commands)
same_folds [] a b h = h
same_folds (command ∷ rest) a b h = same_folds rest (step a command) (step b command) (same_by a b command.line command.what h)

same_with_refusal : (s : Session) (line : ℕ) (said : List ℕ) → SameButTold (with_refusal s line said) s
same_with_refusal s line said = record { files = refl; sets = refl; accepted = refl; changed = refl; answered = refl }

pub refusals_are_left_out : RefusalsAreLeftOut
refusals_are_left_out files front command behind said h =
    let s : Session = session files front in
    let one : SameButTold (step s command) s = subst (λ (t : Session). SameButTold t s) (sym (refusals_change_nothing s command said h)) (same_with_refusal s command.line said) in
    rw (fold-append step (started files) front (command ∷ behind), fold-append step (started files) front behind) (same_folds behind (step s command) s one)
