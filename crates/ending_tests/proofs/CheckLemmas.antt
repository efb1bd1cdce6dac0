-- What is judged is what was seen, and the path that is written.
use Rattle.std.proofs.Common.{◌≡◌, ℕ, Bool, List, ◌∷◌, [], map, Result, Ok, Err, refl, sym, ap, subst, ◌∙◌}
use Rattle.run_endings.specs.Endings.{Contents, Ending, Expected, Finishes, NewFile, Refuses, Seen, Sees, WritesItsPaths}
use Rattle.run_endings.specs.Planning.{IsPlanOf, OnRefused, PlansAs}
use Rattle.run_endings.specs.PromiseProofs.{same_ending}
use Rattle.run_endings.specs.Reading.{IsRead, cut}
use Rattle.run_endings.specs.declared.plan.Plan.{Plan}
use Rattle.run_endings.specs.declared.stop.Stop.{Stop}
use Rattle.run_endings.specs.declared.stop.Stop.TheVariants.{Refused, ReadFailed, Memory}
use Rattle.run_inputs.specs.CutProofs.{cut_folder}
use Rattle.run_inputs.specs.Held.{source_held}
use Rattle.run_inputs.specs.Paths.{sources_in}
use Rattle.run_inputs.specs.Refusals.{folder_verdict}
use Rattle.ending_tests.specs.Checker.{Check, checker, judged, valid_ending}

-- ---- what was read

abbrev expected_of : Check → Seen → Expected
expected_of check seen = judged check (folder_verdict check.folder (source_held seen 0))

read_same : (check : Check) (read seen : Seen) → read ≡ map cut seen → expected_of check read ≡ expected_of check seen
read_same check read seen same = ap (expected_of check) same ∙ ap (judged check) (cut_folder check.folder seen 0)

module _ (tells : Bool) (holds : Contents) (check : Check) (items : Seen) (read : IsRead tells holds (sources_in check.folder) items) where
  same : expected_of check items ≡ expected_of check read.0
  same = read_same check items read.0 read.2

  pub planned : (plan : Plan) → IsPlanOf plan (expected_of check items) → Sees tells holds (sources_in check.folder) (λ seen. IsPlanOf plan (expected_of check seen))
  planned plan is = (read.0, read.1, subst (IsPlanOf plan) same is)

  pub refused : (stop : Stop) → PlansAs (Err stop) (expected_of check items)
      → OnRefused {A = Plan} (Err stop) (λ line. Sees tells holds (sources_in check.folder) (λ seen. expected_of check seen ≡ Refuses line))
  refused (Refused line) h = (read.0, read.1, sym same ∙ h)
  refused (ReadFailed line) h = tt
  refused Memory h = tt

-- ---- the path that is written

abbrev paths : Ending → List (List ℕ)
paths ending = map (λ (file : NewFile). file.path) ending.files

judged_path : {A : Type 0} (check : Check) (verdict : Result A (List ℕ)) (ending : Ending) → judged check verdict ≡ Finishes ending → paths ending ≡ check.output ∷ []
judged_path check (Ok files) ending e = ap paths (sym (same_ending (Finishes (valid_ending check)) (valid_ending check) ending refl e))
judged_path check (Err line) ending e = absurd cc

pub writes_its_path : WritesItsPaths checker
writes_its_path check seen ending e = judged_path check (folder_verdict check.folder (source_held seen 0)) ending e
