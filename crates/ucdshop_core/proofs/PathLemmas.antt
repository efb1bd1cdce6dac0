-- The paths of the files that a run writes differ, so none of them takes the place of another.
-- names_of made part      the paths of a part that is written, below the folder
-- each_form P words job   what holds of the job of each form holds of what the words ask for
use Rattle.std.proofs.Common.{◌≡◌, ℕ, Bool, true, false, List, [], ◌∷◌, ◌++◌, map, Option, Some, None, if◌then◌else◌, codes, refl, ap, subst, ◌∙◌, flat_map, bytes_eq}
use Rattle.std.proofs.lemmas.List.{map-append}
use Rattle.ucd_facts.specs.Enumerations.{derived_files}
use Rattle.ucd_facts.specs.Names.{derived_path}
use Rattle.ucd_points.specs.SourceFiles.{source_files, source_path}
use Rattle.run_endings.specs.Endings.{NewFile}
use Rattle.run_endings.specs.Paths.{path_in}
use Rattle.stability_policies.specs.declared.breaks.Break.{Break}
use Rattle.run_endings.specs.PathProofs.{all_apart, apart_below, others_from, others_of, paths_of, put_others, put_own}
use Rattle.ucdshop_jobs.specs.Jobs.{Job, apply_job, compare_job, derive_job, form, made_paths, make_form, make_job, output_paths, part_paths}
use Rattle.ucdshop_jobs.specs.Making.{number_of}
use Rattle.ucdshop_jobs.specs.Run.{made_files, new_files, part_files}
use Rattle.ucdshop_jobs.specs.Session.{Session}
use Rattle.ucdshop_core.specs.OutputLaws.{PathsAreOfTheWords, OutputsHoldTheirBytes, OtherPathsStay}
use Rattle.ucdshop_jobs.specs.declared.job.Part.{Part}
use Rattle.ucdshop_jobs.specs.declared.job.Part.TheVariants.{Sources, Derived, Log, Sets, Report, Made}

-- ---- a part has the paths of the words

made_are : (folder : List ℕ) (made : Option ℕ) → paths_of (made_files folder made) ≡ made_paths folder made
made_are folder None = refl
made_are folder (Some number) = refl

part_are : (job : Job) (s : Session) (breaks : List Break) (part : Part) → paths_of (part_files job s breaks part) ≡ part_paths job part
part_are job s breaks Sources = refl
part_are job s breaks Derived = refl
part_are job s breaks Log = refl
part_are job s breaks Sets = refl
part_are job s breaks Report = refl
part_are job s breaks Made = made_are job.output job.made

parts_are : (job : Job) (s : Session) (breaks : List Break) (parts : List Part) → paths_of (flat_map (part_files job s breaks) parts) ≡ flat_map (part_paths job) parts
parts_are job s breaks [] = refl
parts_are job s breaks (part ∷ parts) =
    map-append (λ (file : NewFile). file.path) (part_files job s breaks part) (flat_map (part_files job s breaks) parts)
    ∙ ap (λ (paths : List (List ℕ)). paths ++ paths_of (flat_map (part_files job s breaks) parts)) (part_are job s breaks part)
    ∙ ap (λ (paths : List (List ℕ)). part_paths job part ++ paths) (parts_are job s breaks parts)

pub paths_are_of_the_words : PathsAreOfTheWords
paths_are_of_the_words job s breaks = parts_are job s breaks job.parts

-- ---- the parts of a job that has a form have paths that differ

abbrev names_of : Option ℕ → Part → List (List ℕ)
names_of made Sources = map source_path source_files
names_of made Derived = map derived_path derived_files
names_of made Log = codes "bench.log" ∷ []
names_of made Sets = codes "sets.txt" ∷ []
names_of made Report = codes "policy.txt" ∷ []
names_of None Made = []
names_of (Some number) Made = map source_path source_files ++ codes "script.txt" ∷ []

module _ (P : Job → Type 0) (derive : (input output : List ℕ) → P (derive_job input output)) (apply : (input script output : List ℕ) → P (apply_job input script output))
    (compare : (input script output previous : List ℕ) → P (compare_job input script output previous)) (make : (number : ℕ) (output : List ℕ) → P (make_job number output)) where
  is_some : (a b : Job) → Some a ≡ Some b → P a → P b
  is_some a b e = subst P cc

  taken : (is : Bool) (a job : Job) → (if is then Some a else None) ≡ Some job → P a → P job
  taken true a job e = is_some a job e
  taken false a job e = absurd cc

  made_form : (number : Option ℕ) (output : List ℕ) (job : Job) → make_form number output ≡ Some job → P job
  made_form (Some number) output job e = is_some (make_job number output) job e (make number output)
  made_form None output job e = absurd cc

  short : (is made : Bool) (first output : List ℕ) (job : Job)
      → (if is then Some (derive_job first output) else (if made then make_form (number_of first) output else None)) ≡ Some job → P job
  short true made first output job e = is_some (derive_job first output) job e (derive first output)
  short false true first output job e = made_form (number_of first) output job e
  short false false first output job e = absurd cc

  pub each_form : (words : List (List ℕ)) (job : Job) → form words ≡ Some job → P job
  each_form (word ∷ first ∷ output ∷ []) job e = short (bytes_eq word (codes "derive")) (bytes_eq word (codes "make")) first output job e
  each_form (word ∷ input ∷ script ∷ output ∷ []) job e = taken (bytes_eq word (codes "apply")) (apply_job input script output) job e (apply input script output)
  each_form (word ∷ input ∷ script ∷ output ∷ previous ∷ []) job e =
      taken (bytes_eq word (codes "apply")) (compare_job input script output previous) job e (compare input script output previous)
  each_form [] job e = absurd cc
  each_form (_ ∷ []) job e = absurd cc
  each_form (_ ∷ _ ∷ []) job e = absurd cc
  each_form (_ ∷ _ ∷ _ ∷ _ ∷ _ ∷ _ ∷ _) job e = absurd cc

record AreApart (job : Job) : Type 0 where
  below : output_paths job ≡ map (path_in job.output) (flat_map (names_of job.made) job.parts)
  apart : all_apart (flat_map (names_of job.made) job.parts) ≡ true

listed_are_apart : (words : List (List ℕ)) (job : Job) → form words ≡ Some job → AreApart job
listed_are_apart = each_form AreApart
    (λ input output. record { below = refl; apart = refl }) (λ input script output. record { below = refl; apart = refl })
    (λ input script output previous. record { below = refl; apart = refl }) (λ number output. record { below = refl; apart = refl })

outputs_apart : (words : List (List ℕ)) (job : Job) (s : Session) (breaks : List Break) → form words ≡ Some job → all_apart (paths_of (new_files job s breaks)) ≡ true
outputs_apart words job s breaks is =
    let listed = listed_are_apart words job is in
    ap all_apart (paths_are_of_the_words job s breaks ∙ listed.below) ∙ apart_below job.output (flat_map (names_of job.made) job.parts) ∙ listed.apart

pub outputs_hold_their_bytes : OutputsHoldTheirBytes
outputs_hold_their_bytes words job is s breaks holds = put_own (new_files job s breaks) holds (outputs_apart words job s breaks is)

pub other_paths_stay : OtherPathsStay
other_paths_stay job s breaks holds path apart =
    put_others (new_files job s breaks) holds path (ap (others_of path) (paths_are_of_the_words job s breaks) ∙ others_from path (output_paths job) apart)
