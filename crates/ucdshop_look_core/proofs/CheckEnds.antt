-- `check` ends as the run that it stands for.
use Rattle.std.proofs.Common.{◌≡◌, ℕ, List, [], ◌∷◌, ◌++◌, Option, Some, None, Result, Ok, Err, refl, ap, ◌∙◌, append_assoc, append-nil}
use Rattle.ucd_points.specs.Lines.{items_of}
use Rattle.release_rows.specs.FileItems.{FileItem}
use Rattle.run_inputs.specs.Held.{source_held}
use Rattle.run_inputs.specs.Refusals.{folder_verdict}
use Rattle.run_inputs.specs.Verdict.{and_then}
use Rattle.ucdshop_jobs.specs.Jobs.{Job as Run, derive_job, session_parts}
use Rattle.ucdshop_jobs.specs.Run.{Inputs, breaks_since, counts_of, inputs_verdict, judged}
use Rattle.ucdshop_jobs.specs.Printed.{summary}
use Rattle.ucdshop_jobs.specs.Session.{Session, session, started}
use Rattle.ucdshop_jobs.specs.declared.job.Part.{Part}
use Rattle.ucdshop_jobs.specs.declared.job.Part.TheVariants.{Report}
use Rattle.ucdshop_look_core.specs.CheckLaws.{CheckEndsAsApply, CheckEndsAsDerive, TellsAlone, TellsFirst}
use Rattle.ucdshop_look_core.specs.Checks.{broken_text, check_ending, refusals}
use Rattle.ucdshop_look_core.specs.Jobs.{check_job}
use Rattle.ucdshop_look_core.specs.Run.{finished}

abbrev run_into : List ℕ → Option (List ℕ) → Option (List ℕ) → List ℕ → List Part → Run
run_into folder script previous output parts =
    record { made = None; folder = folder; script = script; previous = previous; output = output; parts = parts }

tells_first : (folder output : List ℕ) (script previous : Option (List ℕ)) (parts : List Part) (verdict : Result Inputs (List ℕ))
    → TellsFirst (finished check_ending verdict) (judged (run_into folder script previous output parts) verdict)
tells_first folder output script previous parts (Ok inputs) =
    let s : Session = session inputs.files inputs.commands in
    let breaks = breaks_since inputs.earlier s.files in
    (refl, refusals s.log ++ broken_text breaks, append_assoc (summary (counts_of s breaks)) (refusals s.log) (broken_text breaks))
tells_first folder output script previous parts (Err line) = refl

pub ends_as_apply : CheckEndsAsApply
ends_as_apply folder script output None seen =
    tells_first folder output (Some script) None session_parts (inputs_verdict (check_job folder (Some script) None) seen)
ends_as_apply folder script output (Some previous) seen =
    tells_first folder output (Some script) (Some previous) (session_parts ++ Report ∷ [])
    (inputs_verdict (check_job folder (Some script) (Some previous)) seen)

abbrev alone : Result (List (List FileItem)) (List ℕ) → Result Inputs (List ℕ)
alone verdict = and_then verdict (λ files. Ok (record { files = files; commands = []; earlier = None }))

no_refusals : refusals [] ≡ []
unfolding items_of
no_refusals = refl

abbrev told_line : List (List FileItem) → List ℕ
told_line files = summary (counts_of (started files) [])

tells_alone : (folder output : List ℕ) (verdict : Result (List (List FileItem)) (List ℕ))
    → TellsAlone (finished check_ending (alone verdict)) (judged (derive_job folder output) (alone verdict))
tells_alone folder output (Ok files) =
    let told : List ℕ = told_line files in
    (refl, append-nil (told ++ refusals []) ∙ ap (λ (more : List ℕ). told ++ more) no_refusals ∙ append-nil told)
tells_alone folder output (Err line) = refl

pub ends_as_derive : CheckEndsAsDerive
ends_as_derive folder output seen = tells_alone folder output (folder_verdict folder (source_held seen 0))
