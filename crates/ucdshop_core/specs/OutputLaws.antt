-- The files that a run writes lie at paths of their own.
-- PathsAreOfTheWords      the words alone give the paths of the files that are written, in order
-- OutputsHoldTheirBytes   once all files are put of a job that words ask for, the path of each holds the bytes of that file: none takes
--                         the place of another
-- OtherPathsStay          and each path that is none of them holds what it held
use Rattle.std.specs.Prelude.{◌≡◌, ◌≢◌, ℕ, List, All, map, Some}
use Rattle.stability_policies.specs.declared.breaks.Break.{Break}
use Rattle.run_endings.specs.Endings.{Contents, NewFile, after}
use Rattle.ucdshop_jobs.specs.Jobs.{Job, form, output_paths}
use Rattle.ucdshop_jobs.specs.Run.{new_files}
use Rattle.ucdshop_jobs.specs.Session.{Session}

abbrev pub PathsAreOfTheWords : Type 0
PathsAreOfTheWords = (job : Job) (s : Session) (breaks : List Break) → map (λ (file : NewFile). file.path) (new_files job s breaks) ≡ output_paths job

abbrev pub OutputsHoldTheirBytes : Type 0
OutputsHoldTheirBytes = (words : List (List ℕ)) (job : Job) → form words ≡ Some job → (s : Session) (breaks : List Break) (holds : Contents)
    → All (λ (file : NewFile). after (new_files job s breaks) holds file.path ≡ Some file.bytes) (new_files job s breaks)

abbrev pub OtherPathsStay : Type 0
OtherPathsStay = (job : Job) (s : Session) (breaks : List Break) (holds : Contents) (path : List ℕ)
    → All (λ (output : List ℕ). output ≢ path) (output_paths job) → after (new_files job s breaks) holds path ≡ holds path
