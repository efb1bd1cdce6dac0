-- What is asked for, by the words.
-- Job                              what is asked for: made, the number of which the release and its script are made, None where they
--                                  are read; folder, that of the release; script, the path of the script, where there is one;
--                                  previous, the folder of an earlier release, where there is one; output, the folder that is
--                                  written into; and parts, what is written there, in order
-- derive_job input output          to derive the files of one folder into another
-- session_parts                    what is written after a script: the source files, the derived files, the log and the answers
-- apply_job input script output    to carry a script out on the files of a folder, and to write what they are then and what is
--                                  derived of them into another
-- compare_job input script output previous   to do the same, and to report what breaks a stability policy against the release in the
--                                  folder previous
-- make_job number output           to make the release of a number and a script for it, and to write both into a folder; what is made
--                                  is judged as the files of that folder
-- make_form number output          `make` with this number; None where there is none
-- form words                       what the words ask for; None where they have no listed form
-- read_unless made paths           the paths, where no release is made; else none
-- needed job                       the paths that are read, in order: of the source files, the script, and those of the earlier release
-- made_paths folder made           the paths of the release and the script that are made of a number; none where there is none
-- part_paths job part              the paths of a part that is written
-- output_paths job                 the paths of all files that are written, in order
use Rattle.std.specs.Prelude.{ℕ, List, [], ◌∷◌, ◌++◌, map, Option, Some, None, option_to_list, if◌then◌else◌, codes, flat_map, bytes_eq}
use Rattle.ucd_facts.specs.Enumerations.{derived_files}
use Rattle.run_inputs.specs.Paths.{derived_in, sources_in}
use Rattle.ucdshop_jobs.specs.Making.{number_of}
use Rattle.ucdshop_jobs.specs.Paths.{log_in, sets_in, script_in, policy_in}
use Rattle.ucdshop_jobs.specs.declared.job.Part.{Part}
use Rattle.ucdshop_jobs.specs.declared.job.Part.TheVariants.{Sources, Derived, Log, Sets, Report, Made}

pub record Job : Type 0 where
  pub made : Option ℕ
  pub folder : List ℕ
  pub script : Option (List ℕ)
  pub previous : Option (List ℕ)
  pub output : List ℕ
  pub parts : List Part

-- ---- the words

abbrev pub derive_job : (input output : List ℕ) → Job
derive_job input output = record { made = None; folder = input; script = None; previous = None; output = output; parts = Derived ∷ [] }

abbrev pub session_parts : List Part
session_parts = Sources ∷ Derived ∷ Log ∷ Sets ∷ []

abbrev pub apply_job : (input script output : List ℕ) → Job
apply_job input script output = record { made = None; folder = input; script = Some script; previous = None; output = output; parts = session_parts }

abbrev pub compare_job : (input script output previous : List ℕ) → Job
compare_job input script output previous =
    record { made = None; folder = input; script = Some script; previous = Some previous; output = output; parts = session_parts ++ Report ∷ [] }

abbrev pub make_job : (number : ℕ) (output : List ℕ) → Job
make_job number output = record { made = Some number; folder = output; script = Some (script_in output); previous = None; output = output; parts = Made ∷ [] }

abbrev pub make_form : Option ℕ → List ℕ → Option Job
make_form (Some number) output = Some (make_job number output)
make_form None output = None

abbrev pub form : List (List ℕ) → Option Job
form (word ∷ first ∷ output ∷ []) =
    if bytes_eq word (codes "derive") then Some (derive_job first output) else (if bytes_eq word (codes "make") then make_form (number_of first) output else None)
form (word ∷ input ∷ script ∷ output ∷ []) = if bytes_eq word (codes "apply") then Some (apply_job input script output) else None
form (word ∷ input ∷ script ∷ output ∷ previous ∷ []) = if bytes_eq word (codes "apply") then Some (compare_job input script output previous) else None
form _ = None

-- ---- what is read

abbrev pub read_unless : Option ℕ → List (List ℕ) → List (List ℕ)
read_unless None paths = paths
read_unless (Some number) paths = []

abbrev pub needed : Job → List (List ℕ)
needed job = read_unless job.made (sources_in job.folder ++ option_to_list job.script ++ flat_map sources_in (option_to_list job.previous))

-- ---- what is written

abbrev pub made_paths : List ℕ → Option ℕ → List (List ℕ)
made_paths folder None = []
made_paths folder (Some number) = sources_in folder ++ script_in folder ∷ []

abbrev pub part_paths : Job → Part → List (List ℕ)
part_paths job Sources = sources_in job.output
part_paths job Derived = map (derived_in job.output) derived_files
part_paths job Log = log_in job.output ∷ []
part_paths job Sets = sets_in job.output ∷ []
part_paths job Report = policy_in job.output ∷ []
part_paths job Made = made_paths job.output job.made

abbrev pub output_paths : Job → List (List ℕ)
output_paths job = flat_map (part_paths job) job.parts
