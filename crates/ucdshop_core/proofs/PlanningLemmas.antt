-- What a run makes before it writes, from the verdict on what it works on.
use Rattle.std.proofs.Common.{◌≡◌, ◌≤◌, ◌||◌, nat_lt, Bool, List, length, ℕ, map, Option, Some, None, Result, Ok, Err, refl, sym, ap, subst, ◌∙◌, IfOk}
use Rattle.release_rows.specs.FileItems.{FileItem}
use Rattle.ucdshop_jobs.specs.Judging.{given_verdict, inputs_of}
use Rattle.ucdshop_jobs.specs.Making.{data_rows}
use Rattle.ucdshop_core.specs.Planning.{CountsRows}
use Rattle.run_endings.specs.Planning.{IsPlanOf, OnRefused, PlansAs}
use Rattle.run_endings.specs.Reading.{IsRead}
use Rattle.run_inputs.specs.Judging.{ToldAs}
use Rattle.stability_policies.specs.declared.breaks.Break.{Break}
use Rattle.run_endings.specs.Endings.{Contents, Ending, Expected, Finishes, NewFile, Refuses, Sees, WritesItsPaths}
use Rattle.ucdshop_jobs.specs.Jobs.{Job, needed, output_paths}
use Rattle.ucdshop_jobs.specs.Run.{Inputs, breaks_since, ending_of, expected_of, inputs_ending, job_verdict, judged, new_files, summary_of, ucdshop}
use Rattle.ucdshop_jobs.specs.Session.{Session, session}
use Rattle.ucdshop_jobs.specs.declared.given.Given.{Given}
use Rattle.ucdshop_jobs.specs.declared.inputs.Inputs.{Inputs as InputsMade}
use Rattle.ucdshop_jobs.specs.VerdictLemmas.{Decides, read_decides}
use Rattle.ucdshop_core.proofs.PathLemmas.{paths_are_of_the_words}
use Rattle.run_endings.specs.declared.plan.Plan.{Plan}
use Rattle.run_endings.specs.declared.stop.Stop.{Stop}
use Rattle.run_endings.specs.declared.stop.Stop.TheVariants.{Refused, ReadFailed, Memory}

module _ (tells : Bool) (holds : Contents) (job : Job) (given : Given) (sees : Decides tells holds job given) where
  pub planned : (plan : Plan) → IsPlanOf plan (judged job (given_verdict job given)) → Sees tells holds (needed job) (λ seen. IsPlanOf plan (expected_of job seen))
  planned plan is = (sees.0, sees.1, subst (IsPlanOf plan) (ap (judged job) sees.2) is)

  pub refused : (stop : Stop) → PlansAs (Err stop) (judged job (given_verdict job given))
      → OnRefused {A = Plan} (Err stop) (λ line. Sees tells holds (needed job) (λ seen. expected_of job seen ≡ Refuses line))
  refused (Refused line) h = (sees.0, sees.1, sym (ap (judged job) sees.2) ∙ h)
  refused (ReadFailed line) h = tt
  refused Memory h = tt

-- inputs that are refused
pub stops_as : (job : Job) (verdict : Result Inputs (List ℕ)) (stop : Stop) → ToldAs {A = InputsMade} inputs_of (Err stop) verdict → PlansAs (Err stop) (judged job verdict)
stops_as job verdict (Refused line) told = ap (judged job) told
stops_as job verdict (ReadFailed line) told = absurd told
stops_as job verdict Memory told = tt

-- ---- the paths of the files that are written

finishes_is : (a b : Ending) (e : Expected) → e ≡ Finishes a → e ≡ Finishes b → a ≡ b
finishes_is a b e p q = cc

refuses_finishes : (line : List ℕ) (ending : Ending) → Refuses line ≡ Finishes ending → ⊥
refuses_finishes line ending e = cc

judged_paths : (job : Job) (verdict : Result Inputs (List ℕ)) (ending : Ending) → judged job verdict ≡ Finishes ending
    → map (λ (file : NewFile). file.path) ending.files ≡ output_paths job
judged_paths job (Ok inputs) ending e =
    let s : Session = session inputs.files inputs.commands in
    subst (λ (it : Ending). map (λ (file : NewFile). file.path) it.files ≡ output_paths job)
    (finishes_is (inputs_ending job inputs) ending (judged job (Ok inputs)) refl e) (paths_are_of_the_words job s (breaks_since inputs.earlier s.files))
judged_paths job (Err line) ending e = absurd (refuses_finishes _ ending e)

pub writes_its_paths : WritesItsPaths ucdshop
writes_its_paths job seen ending e = judged_paths job (job_verdict job seen) ending e

-- only the summary of a release that was made tells how many rows there were
summary_counts : (made : Option ℕ) (rows : ℕ) (files : List (List FileItem)) (s : Session) (breaks : List Break) → CountsRows made rows files
    → summary_of made rows s breaks ≡ summary_of made (data_rows files) s breaks
summary_counts None rows files s breaks counts = refl
summary_counts (Some number) rows files s breaks counts = ap (λ (n : ℕ). summary_of (Some number) n s breaks) counts

abbrev ending_told : Job → Session → List Break → List ℕ → Ending
ending_told job s breaks line = record { files = new_files job s breaks; summary = line; done = nat_lt 0 s.refused || nat_lt 0 (length breaks) }

ending_counts : (job : Job) (rows : ℕ) (files : List (List FileItem)) (s : Session) (breaks : List Break) → CountsRows job.made rows files
    → ending_of job rows s breaks ≡ ending_of job (data_rows files) s breaks
ending_counts job rows files s breaks counts = ap (ending_told job s breaks) (summary_counts job.made rows files s breaks counts)

-- the ending after a session that was carried out, with the breaks by the files that it leaves
pub ending_reached : (job : Job) (rows : ℕ) (files : List (List FileItem)) (earlier : Option (List (List FileItem))) (carried s : Session) (breaks : List Break)
    → CountsRows job.made rows files → carried ≡ s → breaks ≡ breaks_since earlier carried.files
    → ending_of job rows carried breaks ≡ ending_of job (data_rows files) s (breaks_since earlier s.files)
ending_reached job rows files earlier carried s breaks counts reached broken =
    ending_counts job rows files carried breaks counts ∙ ap (ending_of job (data_rows files) carried) broken
    ∙ ap (λ (it : Session). ending_of job (data_rows files) it (breaks_since earlier it.files)) reached

-- ---- the texts that a job works on

-- what was read, where nothing is made, decides
pub reading_decides : (tells : Bool) (holds : Contents) (job : Job) (r : Result Given Stop) → job.made ≡ None
    → IfOk r (λ given. IsRead tells holds (needed job) given.held.items) → IfOk r (λ given. Decides tells holds job given)
reading_decides tells holds job (Ok given) none read = read_decides tells holds job given none read
reading_decides tells holds job (Err stop) none read = tt
