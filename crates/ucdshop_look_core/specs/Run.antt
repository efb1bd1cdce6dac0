-- What a run is to do, by its words and by what the shelf holds.
--
-- What a run keeps stands in Promises.antt of run_endings, of any program; here stands this one.
-- finished ending verdict    Finishes with the ending on what was judged; or Refuses with the line that refuses it
-- expected_of job seen       what is expected of a job, by what was seen at the paths that it needs
-- ucdshop_look               this program, which writes nothing
use Rattle.std.specs.Prelude.{ℕ, List, [], Result, Ok, Err}
use Rattle.run_endings.specs.Endings.{Ending, Expected, Finishes, Program, Refuses, Seen}
use Rattle.run_inputs.specs.Held.{source_held}
use Rattle.run_inputs.specs.Refusals.{folder_verdict}
use Rattle.ucdshop_jobs.specs.Run.{inputs_verdict}
use Rattle.ucdshop_look_core.specs.Answers.{ask_ending}
use Rattle.ucdshop_look_core.specs.Changes.{changes_ending}
use Rattle.ucdshop_look_core.specs.Checks.{check_ending}
use Rattle.ucdshop_look_core.specs.Jobs.{Job, Ask, Changes, Check, Show, form, needed}
use Rattle.ucdshop_look_core.specs.Printed.{usage}
use Rattle.ucdshop_look_core.specs.Shown.{show_ending}

abbrev pub finished : {A : Type 0} → (A → Ending) → Result A (List ℕ) → Expected
finished ending (Ok value) = Finishes (ending value)
finished ending (Err line) = Refuses line

abbrev pub expected_of : Job → Seen → Expected
expected_of (Ask folder questions) seen = finished (ask_ending questions) (folder_verdict folder (source_held seen 0))
expected_of (Show folder points) seen = finished (show_ending points) (folder_verdict folder (source_held seen 0))
expected_of (Check run) seen = finished check_ending (inputs_verdict run seen)
expected_of (Changes run) seen = finished changes_ending (inputs_verdict run seen)

abbrev pub ucdshop_look : Program Job
ucdshop_look = record { usage = usage; form = form; needed = needed; written = λ job. []; expected = expected_of }
