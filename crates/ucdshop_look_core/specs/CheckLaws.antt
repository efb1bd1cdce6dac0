-- What `check` tells is what the run of the first program comes to that it stands for.
-- TellsFirst check run       both are refused, by the same line; or both end, with the same status, and the text of the first begins with
--                            the line of the second
-- TellsAlone check run       the same, and the text is that line
-- apply_run folder script output previous   `apply` of these words
-- CheckEndsAsApply           `check` with a script tells first what `apply` tells, whatever is seen
-- CheckEndsAsDerive          `check` of a folder tells alone what `derive` tells, whatever is seen
use Rattle.std.specs.Prelude.{◌≡◌, ℕ, List, ◌++◌, Option, Some, None}
use Rattle.run_endings.specs.Endings.{Expected, Finishes, Refuses, Seen}
use Rattle.ucdshop_jobs.specs.Jobs.{Job as Run, apply_job, compare_job, derive_job}
use Rattle.ucdshop_jobs.specs.Run.{expected_of as run_expected}
use Rattle.ucdshop_look_core.specs.Jobs.{Check, check_job}
use Rattle.ucdshop_look_core.specs.Run.{expected_of}

abbrev pub TellsFirst : Expected → Expected → Type 0
TellsFirst (Refuses line) (Refuses other) = line ≡ other
TellsFirst (Finishes check) (Finishes run) = (check.done ≡ run.done) × (more : List ℕ) × (check.summary ≡ run.summary ++ more)
TellsFirst _ _ = ⊥

abbrev pub TellsAlone : Expected → Expected → Type 0
TellsAlone (Refuses line) (Refuses other) = line ≡ other
TellsAlone (Finishes check) (Finishes run) = (check.done ≡ run.done) × (check.summary ≡ run.summary)
TellsAlone _ _ = ⊥

abbrev pub apply_run : List ℕ → List ℕ → List ℕ → Option (List ℕ) → Run
apply_run folder script output None = apply_job folder script output
apply_run folder script output (Some previous) = compare_job folder script output previous

abbrev pub CheckEndsAsApply : Type 0
CheckEndsAsApply = (folder script output : List ℕ) (previous : Option (List ℕ)) (seen : Seen)
    → TellsFirst (expected_of (Check (check_job folder (Some script) previous)) seen)
    (run_expected (apply_run folder script output previous) seen)

abbrev pub CheckEndsAsDerive : Type 0
CheckEndsAsDerive = (folder output : List ℕ) (seen : Seen)
    → TellsAlone (expected_of (Check (check_job folder None None)) seen) (run_expected (derive_job folder output) seen)
