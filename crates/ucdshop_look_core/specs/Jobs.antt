-- What is asked for, by the words.
-- Job                        what is asked for: Ask folder questions, to answer questions on the release of a folder; Show folder points,
--                            to tell the records of code points of it; Check run, to tell how this run of the first program would end;
--                            Changes run, to tell which records the groups of its script change
-- asked_limit                the greatest number of questions, and of code points
-- are_some words             there is one word or more, up to the limit
-- is_one_line text           no LF is in it: it can stand in the head of a section
-- ask_form arguments         what the words behind `ask` ask for: DATA, and questions of one line
-- show_form arguments        what the words behind `show` ask for: DATA, and words that name code points
-- check_job folder script previous   the run that `check` stands for: `derive` without a script, else `apply`; it writes nothing
-- check_form arguments       what the words behind `check` ask for: DATA, and the script and the folder of an earlier release, if they are
--                            there
-- changes_form arguments     what the words behind `changes` ask for: DATA and the script
-- form words                 what the words ask for; None where they have no listed form
-- needed job                 the paths that are read, in order
use Rattle.std.specs.Prelude.{ℕ, ◌&&◌, ◌==◌, Bool, not, List, [], ◌∷◌, length, Option, Some, None, nat_le, nat_lt, if◌then◌else◌, codes, bytes_eq}
use Rattle.std.specs.List.{list_all}
use Rattle.run_inputs.specs.Paths.{sources_in}
use Rattle.ucdshop_jobs.specs.Jobs.{Job as Run, needed as run_needed}
use Rattle.ucdshop_look_core.specs.Points.{names_point, points_in}

pub data Job : Type 0 where
  Ask : (folder : List ℕ) (questions : List (List ℕ)) → Job
  Show : (folder : List ℕ) (points : List ℕ) → Job
  Check : (run : Run) → Job
  Changes : (run : Run) → Job

abbrev pub asked_limit : ℕ
asked_limit = 64

abbrev pub are_some : List (List ℕ) → Bool
are_some words = nat_lt 0 (length words) && nat_le (length words) asked_limit

abbrev pub is_one_line : List ℕ → Bool
is_one_line text = list_all (λ b. not (b == 10)) text

abbrev pub ask_form : List (List ℕ) → Option Job
ask_form [] = None
ask_form (folder ∷ questions) = if are_some questions && list_all is_one_line questions then Some (Ask folder questions) else None

abbrev pub show_form : List (List ℕ) → Option Job
show_form [] = None
show_form (folder ∷ words) = if are_some words && list_all names_point words then Some (Show folder (points_in words)) else None

abbrev pub check_job : List ℕ → Option (List ℕ) → Option (List ℕ) → Run
check_job folder script previous = record { made = None; folder = folder; script = script; previous = previous; output = []; parts = [] }

abbrev pub check_form : List (List ℕ) → Option Job
check_form (folder ∷ []) = Some (Check (check_job folder None None))
check_form (folder ∷ script ∷ []) = Some (Check (check_job folder (Some script) None))
check_form (folder ∷ script ∷ previous ∷ []) = Some (Check (check_job folder (Some script) (Some previous)))
check_form _ = None

abbrev pub changes_form : List (List ℕ) → Option Job
changes_form (folder ∷ script ∷ []) = Some (Changes (check_job folder (Some script) None))
changes_form _ = None

abbrev pub form : List (List ℕ) → Option Job
form [] = None
form (word ∷ arguments) =
    if bytes_eq word (codes "ask") then ask_form arguments
    else (if bytes_eq word (codes "show") then show_form arguments
    else (if bytes_eq word (codes "check") then check_form arguments
    else (if bytes_eq word (codes "changes") then changes_form arguments
    else None)))

abbrev pub needed : Job → List (List ℕ)
needed (Ask folder questions) = sources_in folder
needed (Show folder points) = sources_in folder
needed (Check run) = run_needed run
needed (Changes run) = run_needed run
