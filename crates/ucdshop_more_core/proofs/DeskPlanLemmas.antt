-- What `desk` writes, by what its log has.
use Rattle.std.proofs.Common.{◌≡◌, ℕ, List, Result, Ok, Err, ap, subst, ◌∙◌, IfOk, count_by}
use Rattle.ucd_points.specs.declared.memory.Memory.{Memory}
use Rattle.release_rows.specs.Releases.{ReleaseItems, FileItem}
use Rattle.bench_editors.specs.Desks.{DeskState, after_events, replies, started}
use Rattle.bench_editors.specs.Standing.{StandsFor, desk_bench}
use Rattle.bench_editors.specs.declared.desk.Desk.{Desk}
use Rattle.run_endings.specs.Endings.{Ending}
use Rattle.run_endings.specs.Planning.{HasPlan}
use Rattle.run_endings.specs.declared.plan.Plan.{Plan}
use Rattle.ucdshop_more_core.specs.DeskTexts.{desk_log, is_accepted, is_turned_away}
use Rattle.ucdshop_more_core.specs.Logging.{LogsAll}
use Rattle.ucdshop_more_core.specs.Run.{desk_ending, desk_ending_by, desk_ending_from, events_of, lines_of}
use Rattle.ucdshop_more_core.specs.Sessions.{Session}
use Rattle.ucdshop_more_core.specs.Turns.{Turn}
use Rattle.ucdshop_more_core.specs.declared.desk_log.DeskLog.{DeskLog}

ending_as : (output : List ℕ) (files others : List (List FileItem)) (text lines : List ℕ) (accepted m refused n : ℕ) → files ≡ others → text ≡ lines → accepted ≡ m → refused ≡ n
    → desk_ending_by output files text accepted refused ≡ desk_ending_by output others lines m n
ending_as output files others text lines accepted m refused n f t a r =
    ap (λ (x : List (List FileItem)). desk_ending_by output x text accepted refused) f
    ∙ ap (λ (x : List ℕ). desk_ending_by output others x accepted refused) t
    ∙ ap (λ (x : ℕ). desk_ending_by output others lines x refused) a
    ∙ ap (λ (x : ℕ). desk_ending_by output others lines m x) r

logged_ending : (output : List ℕ) (s : DeskState) (turns : List Turn) (log : DeskLog) (desk : Desk) (bench : ReleaseItems) → bench ≡ desk_bench desk → LogsAll s turns log desk
    → desk_ending_by output bench.current log.text log.accepted log.refused ≡ desk_ending_from output s turns
logged_ending output s turns log desk bench is logs =
    let files = (after_events s (events_of turns)).files in
    let answers = replies s (events_of turns) in
    ending_as output bench.current files log.text (desk_log (lines_of turns) answers) log.accepted (count_by is_accepted answers) log.refused (count_by is_turned_away answers)
    (ap (λ (b : ReleaseItems). b.current) is ∙ logs.state.files) logs.text logs.accepted logs.refused

-- a plan of what the log has is a plan of what the turns leave, from each state that the desk stood for
pub plans_turns : (output : List ℕ) (turns : List Turn) (log : DeskLog) (old new : Desk) (bench : ReleaseItems) → bench ≡ desk_bench new
    → ((s : DeskState) → StandsFor old s → LogsAll s turns log new) → (result : Result Plan Memory)
    → IfOk result (HasPlan (desk_ending_by output bench.current log.text log.accepted log.refused))
    → IfOk result (λ plan. (s : DeskState) → StandsFor old s → HasPlan (desk_ending_from output s turns) plan)
plans_turns output turns log old new bench is logs (Ok plan) has = λ s stands.
    subst (λ (ending : Ending). HasPlan ending plan) (logged_ending output s turns log new bench is (logs s stands)) has
plans_turns output turns log old new bench is logs (Err memory) has = tt

-- a new desk stands for the release of its bench
pub plans_session : (output : List ℕ) (session : Session) (turns : List Turn) (desk : Desk) → turns ≡ session.turns → StandsFor desk (started session.files) → (result : Result Plan Memory)
    → IfOk result (λ plan. (s : DeskState) → StandsFor desk s → HasPlan (desk_ending_from output s turns) plan) → IfOk result (HasPlan (desk_ending output session))
plans_session output session turns desk is stands (Ok plan) has =
    subst (λ (all : List Turn). HasPlan (desk_ending_from output (started session.files) all) plan) is (has (started session.files) stands)
plans_session output session turns desk is stands (Err memory) has = tt
