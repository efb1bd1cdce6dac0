-- All that a run does before it writes.
-- OnRefused result P              P of the line, where what was read was refused
-- NamesUnread paths tells failed line   the line names one of the paths, and the last failed one where that is told
-- OnlyRead shelf                  every path holds what it held, where that is told; the count of failed reads did not fall, and
--                                 that of failed writes is as it was
-- UnreadAs result paths shelf     with a read that failed the count of failed reads rose, and the line names one of the paths, the
--                                 last failed one where that is told; else the path of the last failed read is as it was. If
--                                 memory ran out, nothing is claimed
-- HaveLines outputs               each output has the line that names its path as the one that could not be written
-- Puts files old new              outputs of these files were put behind the old ones, each with its line
-- IsPlanOf plan expected          what is expected is an ending, and the plan is one of that ending
-- PlansAs result expected         the plan is one of the expected ending, or the line that refuses is the expected one; if
--                                 memory ran out, nothing is claimed
-- HasPlan ending plan             the plan writes the files of the ending, each with the line that names its path, tells its
--                                 summary, and says whether something was refused or is broken
use Rattle.std.specs.Prelude.{◌≡◌, ◌≤◌, ℕ, List, ◌++◌, map, IsTrue, Bool, Some, Result, Ok, Err, ⊤, slice_get}
use Rattle.run_endings.specs.Printed.{read_failed, write_failed}
use Rattle.run_endings.specs.Outcome.{ShelfSeen, Unchanged, LastFailedStays}
use Rattle.run_endings.specs.Endings.{NewFile, Ending, Expected, Refuses, Finishes}
use Rattle.run_endings.specs.Writing.{files_of}
use Rattle.shelf_io.specs.Counts.{Rose}
use Rattle.run_endings.specs.declared.plan.Plan.{Plan}
use Rattle.run_endings.specs.declared.stop.Stop.{Stop}
use Rattle.run_endings.specs.declared.stop.Stop.TheVariants.{Refused, ReadFailed, Memory}
use Rattle.run_endings.specs.declared.output.Output.{Output}

abbrev pub HaveLines : List Output → Type 0
HaveLines outputs = map (λ output. output.fault_line) outputs ≡ map (λ output. write_failed output.path) outputs

pub record Puts (files : List NewFile) (old new : List Output) : Type 0 where
  pub put : files_of new ≡ files_of old ++ files
  pub lines : HaveLines old → HaveLines new

pub record HasPlan (ending : Ending) (plan : Plan) : Type 0 where
  pub files : files_of plan.outputs.items ≡ ending.files
  pub lines : HaveLines plan.outputs.items
  pub summary : plan.summary ≡ ending.summary
  pub done : plan.done ≡ ending.done

abbrev pub IsPlanOf : Plan → Expected → Type 0
IsPlanOf plan expected = (ending : Ending) × (expected ≡ Finishes ending) × HasPlan ending plan

abbrev pub PlansAs : Result Plan Stop → Expected → Type 0
PlansAs (Ok plan) expected = IsPlanOf plan expected
PlansAs (Err (Refused line)) expected = expected ≡ Refuses line
PlansAs (Err (ReadFailed line)) expected = ⊥
PlansAs (Err Memory) expected = ⊤

abbrev pub OnRefused : {A : Type 0} → Result A Stop → (List ℕ → Type 0) → Type 0
OnRefused (Ok _) P = ⊤
OnRefused (Err (Refused line)) P = P line
OnRefused (Err (ReadFailed line)) P = ⊤
OnRefused (Err Memory) P = ⊤

pub record NamesUnread (paths : List (List ℕ)) (tells : Bool) (failed line : List ℕ) : Type 0 where
  pub path : List ℕ
  pub place : ℕ
  pub needed : slice_get paths place ≡ Some path
  pub told : line ≡ read_failed path
  pub last : IsTrue tells → path ≡ failed

pub record OnlyRead (shelf : ShelfSeen) : Type 0 where
  pub held_stays : Unchanged shelf
  pub read_faults_never_fall : shelf.reads_old ≤ shelf.reads_new
  pub write_faults_stay : shelf.writes_new ≡ shelf.writes_old

abbrev pub UnreadAs : {A : Type 0} → Result A Stop → List (List ℕ) → ShelfSeen → Type 0
UnreadAs (Ok _) paths shelf = LastFailedStays shelf
UnreadAs (Err (Refused line)) paths shelf = LastFailedStays shelf
UnreadAs (Err (ReadFailed line)) paths shelf = Rose shelf.reads_old shelf.reads_new × NamesUnread paths shelf.tells_failed shelf.failed line
UnreadAs (Err Memory) paths shelf = ⊤
