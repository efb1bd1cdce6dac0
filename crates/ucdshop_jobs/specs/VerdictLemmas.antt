-- The verdict on what is given to a job is the verdict on what was seen.
use Rattle.std.proofs.Common.{◌≡◌, ℕ, ◌+◌, Bool, List, [], ◌++◌, map, Option, Some, None, Result, Ok, Err, refl, sym, ap, ◌∙◌, arith, flat_map, option_to_list}
use mathlib.Core.Path.{fun_ext}
use Rattle.ucd_points.specs.SourceFiles.{file_place}
use Rattle.release_rows.specs.FileItems.{FileItem}
use Rattle.script_lines.specs.declared.command.Command.{Command}
use Rattle.run_endings.specs.Reading.{IsRead, cut}
use Rattle.run_endings.specs.Endings.{Contents, Seen, Sees}
use Rattle.run_inputs.specs.Held.{StayOutside, held_at, source_held}
use Rattle.run_inputs.specs.Paths.{sources_in}
use Rattle.run_inputs.specs.Refusals.{folder_line, folder_verdict, told}
use Rattle.run_inputs.specs.Verdict.{release_verdict}
use Rattle.ucdshop_jobs.specs.CutProofs.{all_three, cut_verdict}
use Rattle.ucdshop_jobs.specs.Judging.{behind_verdict, given_verdict}
use Rattle.ucdshop_jobs.specs.Jobs.{Job, needed, read_unless}
use Rattle.ucdshop_jobs.specs.Run.{commands_verdict, earlier_place, earlier_verdict, inputs_verdict, job_verdict, made_texts, texts_of}
use Rattle.ucdshop_jobs.specs.declared.given.Given.{Given}

read_verdict : (job : Job) (read seen : Seen) → read ≡ map cut seen → inputs_verdict job read ≡ inputs_verdict job seen
read_verdict job read seen same = ap (inputs_verdict job) same ∙ cut_verdict job seen

-- the verdict on what is given is that on what was seen
abbrev pub Decides : Bool → Contents → Job → Given → Type 0
Decides tells holds job given = Sees tells holds (needed job) (λ seen. given_verdict job given ≡ job_verdict job seen)

pub read_decides : (tells : Bool) (holds : Contents) (job : Job) (given : Given) → job.made ≡ None → IsRead tells holds (needed job) given.held.items → Decides tells holds job given
read_decides tells holds job given none read =
    (read.0, read.1, read_verdict job given.held.items read.0 read.2 ∙ ap (λ (made : Option ℕ). inputs_verdict job (texts_of made read.0)) (sym none))

-- what is made is given, and nothing is seen
nothing_seen : (tells : Bool) (holds : Contents) (paths : List (List ℕ)) (P : Seen → Type 0) → paths ≡ [] → P [] → Sees tells holds paths P
nothing_seen tells holds paths P none p = rw none ([], record { each = refl; held = λ _. refl }, p)

pub made_decides : (tells : Bool) (holds : Contents) (job : Job) (number : ℕ) (given : Given) → job.made ≡ Some number → given.held.items ≡ made_texts number → Decides tells holds job given
made_decides tells holds job number given some made =
    nothing_seen tells holds (needed job) (λ seen. given_verdict job given ≡ job_verdict job seen)
    (ap (λ (is : Option ℕ). read_unless is (sources_in job.folder ++ option_to_list job.script ++ flat_map sources_in (option_to_list job.previous))) some)
    (ap (inputs_verdict job) made ∙ ap (λ (is : Option ℕ). inputs_verdict job (texts_of is [])) (sym some))

-- ---- what is held behind the first folder stays while that is judged

pub judged_behind : (job : Job) (old new : Seen) (files : List (List FileItem)) → folder_verdict job.folder (source_held old 0) ≡ Ok files → StayOutside 0 old new
    → behind_verdict job new files ≡ inputs_verdict job old
judged_behind job old new files is stay =
    let first : ℕ = earlier_place job in
    ap (λ (commands : Result (List Command) (List ℕ)). all_three (Ok files) commands (earlier_verdict job.previous (source_held new first)))
    (ap (commands_verdict job.script) (stay.behind 9 (omega arith)))
    ∙ ap (all_three (Ok files) (commands_verdict job.script (held_at old 9)))
    (ap (earlier_verdict job.previous) (fun_ext (λ file. stay.behind (first + file_place file) (omega arith))))
    ∙ ap (λ (them : Result (List (List FileItem)) (List ℕ)). all_three them (commands_verdict job.script (held_at old 9)) (earlier_verdict job.previous (source_held old first))) (sym is)

-- an earlier release whose source files hold the same is the same release
untold : {A E : Type 0} (line : E → List ℕ) (r : Result A E) (value : A) → told line r ≡ Ok value → r ≡ Ok value
untold line (Ok x) value is = cc
untold line (Err why) value is = absurd cc

pub same_release : (job : Job) (old new : Seen) (files : List (List FileItem)) → source_held old (earlier_place job) ≡ source_held old 0 → folder_verdict job.folder (source_held old 0) ≡ Ok files → StayOutside 0 old new
    → release_verdict (source_held new (earlier_place job)) ≡ Ok files
same_release job old new files same is stay =
    let first : ℕ = earlier_place job in
    ap release_verdict (fun_ext (λ file. stay.behind (first + file_place file) (omega arith)) ∙ same)
    ∙ untold (folder_line job.folder) (release_verdict (source_held old 0)) files is
