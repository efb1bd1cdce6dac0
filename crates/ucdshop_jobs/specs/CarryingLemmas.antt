-- The first of the commands that are left, and those behind it.
use Rattle.std.proofs.Common.{◌≡◌, ℕ, List, [], ◌∷◌, Result, Ok, Err, fold, refl, sym, ap, subst, ◌∙◌, Bor, IfOk, IfErr, All}
use Rattle.std.proofs.lemmas.List.Elements.{All-tail}
use Rattle.release_rows.specs.FileItems.{FileItem}
use Rattle.script_lines.specs.Groups.{IsWellFormed}
use Rattle.script_lines.specs.declared.command.Command.{Command}
use Rattle.script_lines.specs.declared.command.What.{What}
use Rattle.script_lines.specs.declared.command.What.TheVariants.{Group, Question}
use Rattle.edit_session.specs.CountProofs.{counts_none}
use Rattle.edit_session.specs.Groups.{after_ops, files_facts}
use Rattle.ucd_points.specs.declared.memory.Memory.{Memory as NoMemory}
use Rattle.ucdshop_jobs.specs.Answering.{AnswersFront}
use Rattle.ucdshop_jobs.specs.Carrying.{session_on}
use Rattle.ucdshop_jobs.specs.Counting.{CommandCounts, SessionCounts}
use Rattle.ucdshop_jobs.specs.Session.{Session, step, step_by}
use Rattle.ucdshop_jobs.specs.declared.carried.Carried.{Carried}

pub ready_behind : (commands : List Command) (first : Command) (behind : List Command) → commands ≡ first ∷ behind → All IsWellFormed commands → All IsWellFormed behind
ready_behind commands first behind e ready = All-tail IsWellFormed first behind (subst (All IsWellFormed) e ready)

pub first_carried : (commands : List Command) (first : Command) (behind : List Command) (what : What) (s t : Session) → commands ≡ first ∷ behind → first.what ≡ what
    → t ≡ step_by s first.line what → fold step t behind ≡ fold step s commands
first_carried commands first behind what s t e is carried =
    ap (λ (x : Session). fold step x behind) (carried ∙ ap (step_by s first.line) (sym is)) ∙ ap (fold step s) (sym e)

-- ---- the counter

pub first_counts : (commands : List Command) (first : Command) (behind : List Command) (what : What) (s t : Session) (old between new : ℕ) → commands ≡ first ∷ behind → first.what ≡ what
    → t ≡ step_by s first.line what → CommandCounts s.files what old between → SessionCounts t behind between new → SessionCounts s commands old new
unfolding SessionCounts
first_counts commands first behind what s t old between new e is carried here more =
    let one : CommandCounts s.files first.what old between = subst (λ (w : What). CommandCounts s.files w old between) (sym is) here in
    let rest : SessionCounts (step s first) behind between new = subst (λ (x : Session). SessionCounts x behind between new) (carried ∙ ap (step_by s first.line) (sym is)) more in
    subst (λ (all : List Command). SessionCounts s all old new) (sym e) (between, one, rest)

command_counts_none : (files : List (List FileItem)) (what : What) (n : ℕ) → CommandCounts files what n n
command_counts_none files (Group ops) n = counts_none (after_ops files 0 ops) (files_facts files) n
command_counts_none files (Question text) n = refl

pub session_counts_none : (s : Session) (commands : List Command) (n : ℕ) → SessionCounts s commands n n
unfolding SessionCounts
session_counts_none s [] n = refl
session_counts_none s (command ∷ rest) n = (n, command_counts_none s.files command.what n, session_counts_none (step s command) rest n)

-- what holds whatever the result is
-- the first command is a question, and with it those behind it are answered
pub question_counts : (result : Result (Bor (List Command)) NoMemory) (files : List (List FileItem)) (carried : Carried) (commands : List Command) (first : Command) (behind : List Command) (text : List ℕ) (s : Session) (count old n : ℕ)
    → commands ≡ first ∷ behind → first.what ≡ Question text → IfOk result (λ rest. AnswersFront files (step_by s first.line (Question text)) count behind carried rest.now)
    → IfOk result (λ rest. SessionCounts (session_on files carried) rest.now old n → SessionCounts s commands old n)
question_counts (Ok rest) files carried commands first behind text s count old n e is front = λ more.
    first_counts commands first behind (Question text) s (step_by s first.line (Question text)) old old n e is refl refl (front.counts old n more)
question_counts (Err stop) files carried commands first behind text s count old n e is front = tt
