-- Words on counts, and on the calls that a test makes fail.
--   Rose before now      a count rose: it is greater than before, or it stands at 2 ^ 64 - 1
--   one_more n           a count of 64 bits one higher, or the greatest where there is no higher one
--   faults_after failed before   a count of faults after a call that failed, or did not
--   Calls                the calls of one kind: how many were made, which ones fail, how many failed
--   no_calls             none was made, none fails
--   fails_next calls     whether the next call is one of those that fail
--   passed calls         one more call was made, and did not fail
--   failed calls         one more call was made, and failed
--   failing_too n calls  the nth call fails as well
use Rattle.std.specs.Prelude.{ℕ, ◌+◌, ◌-◌, ◌^◌, ◌≤◌, ◌==◌, min, Bool, if◌then◌else◌, List, [], ◌∷◌, ◌++◌}
use Rattle.std.specs.List.{list_any}

abbrev pub Rose : ℕ → ℕ → Type 0
Rose before now = min (before + 1) (2 ^ 64 - 1) ≤ now

abbrev pub one_more : ℕ → ℕ
one_more n = min (n + 1) (2 ^ 64 - 1)

abbrev pub faults_after : Bool → ℕ → ℕ
faults_after failed before = if failed then one_more before else before

pub record Calls : Type 0 where
  pub made : ℕ
  pub failing : List ℕ
  pub faults : ℕ

abbrev pub no_calls : Calls
no_calls = record { made = 0; failing = []; faults = 0 }

abbrev pub fails_next : Calls → Bool
fails_next calls = list_any (λ nth. nth == one_more calls.made) calls.failing

abbrev pub passed : Calls → Calls
passed calls = record calls { made = one_more calls.made }

abbrev pub failed : Calls → Calls
failed calls = record calls { made = one_more calls.made; faults = one_more calls.faults }

abbrev pub failing_too : ℕ → Calls → Calls
failing_too nth calls = record calls { failing = calls.failing ++ nth ∷ [] }
