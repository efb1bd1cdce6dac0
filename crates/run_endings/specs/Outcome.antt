-- What a run leaves, by its status.
-- ShelfSeen, SinkSeen               what is seen of the shelf and the sink before and after the run
-- Unchanged shelf                   every path holds what it held; nothing is said of a shelf that does not tell what it holds
-- LastFailedStays shelf             the path of the last failed read is as it was; nothing is said of a shelf that does not tell
--                                   it
-- Grew line sink                    what was written grew by exactly the line; nothing is said of a sink that does not tell it
-- GrewInPart line sink              the sink's count of faults rose, and what was written grew by a prefix of the line
-- Told line sink                    one of the two
--
-- What each status says. What a shelf holds and the path of its last failed read are spoken of only where the shelf tells them,
-- here and below
-- status_if done, status_of ending  Done where the ending says so, else Clean
-- Leaves ending shelf sink status   the status is that of the ending, every file of the ending is written and all else is as it
--                                   was, and its summary is told
-- IsFinished p words shelf sink status   the words have a form, what was seen is not refused, and the run leaves its ending
-- IsBadWords p words shelf sink       the words have no form, the shelf is unchanged, and the usage is told
-- IsRefused p words shelf sink        the words have a form, what was seen is refused by the line that is told, the path of the last
--                                   failed read is as it was, and the shelf is unchanged
-- IsReadFault p words shelf sink      a path that the words need could not be read: the count of failed reads rose, the path is
--                                   that of the last failed read where that is told, and the line names it; the shelf is
--                                   unchanged
-- IsWriteStopped p words ending shelf sink   an output could not be written: the count of failed writes rose, the files before it
--                                   are written, its path holds anything or is absent, all else is as it was, and the line names it
-- IsUntold ending shelf sink        all files are written, and the summary could not be told whole
-- IsWriteFault p words shelf sink     the words have a form, what was seen is not refused, and one of the two
-- IsMemory p words shelf sink         the words have a form, memory ran out before the first write, the shelf is unchanged, and
--                                   the line says so
-- Outcome p words shelf sink status   what the status says of the run, by cases
--
-- Parts of a run, and what a caller reads of a status
-- StoppedWith stop sink status      a run that stopped before it wrote has the status of its stop, and has told its line
-- StopsWriting plan shelf sink      the count of failed writes rose, the files of the plan before the one that failed are
--                                   written, and the line of that one is told
-- WritesAll plan shelf              the files of the plan are written, and every other path holds what it held
-- Finished plan shelf sink status   all files are written, the summary is told, and the status is as the plan says; or the status
--                                   is WriteFault: writing stopped, or all files are written and the summary could not be told
--                                   whole
-- IsNeeded p words path               the words have a form, and the path is one that is read
-- IsOutput p words place path         the words have a form, and the path is the one at this place, counted from 0, among those
--                                   that are written
-- WritesNothing status              BadWords, LoadRefused, ReadFault or Memory: the statuses with which nothing was written
-- FinishesWell status               Clean or Done: the statuses with which all that was to be done is done
-- MayWrite status                   those and WriteFault: the statuses with which files were written, or the first one was tried
-- PassesReads status                those, BadWords and LoadRefused: the statuses that no failed read gives
-- WrittenUpTo ending place path shelf   the files of the ending before the place are written, its path holds anything or is absent,
--                                   and every other path holds what it held
-- WrittenWhole p words old new        every file is written, and every other path holds what it held
use Rattle.std.specs.Prelude.{◌≡◌, ◌≢◌, ◌⊎◌, ℕ, Bool, true, false, IsTrue, List, ◌++◌, take, Some, None, slice_get}
use Rattle.shelf_io.specs.Counts.{Rose}
use Rattle.shelf_io.specs.Contents.{SameContents, AddsPrefix}
use Rattle.run_endings.specs.Printed.{read_failed, write_failed, out_of_memory}
use Rattle.run_endings.specs.Endings.{Contents, Program, Ending, Refuses, needed, expected, seen_in, after, Replaced, Sees, EndsAs}
use Rattle.run_endings.specs.Writing.{files_of, StoppedAt}
use Rattle.run_endings.specs.declared.plan.Plan.{Plan}
use Rattle.run_endings.specs.declared.stop.Stop.{Stop}
use Rattle.run_endings.specs.declared.stop.Stop.TheVariants.{Refused, ReadFailed}
use Rattle.run_endings.specs.declared.stop.Stop.TheVariants as stops
use Rattle.run_endings.specs.declared.status.Status.{Status}
use Rattle.run_endings.specs.declared.status.Status.TheVariants.{Clean, Done, BadWords, LoadRefused, ReadFault, WriteFault, Memory}

pub record ShelfSeen : Type 0 where
  pub tells : Bool
  pub tells_failed : Bool
  pub old : Contents
  pub new : Contents
  pub reads_old : ℕ
  pub reads_new : ℕ
  pub writes_old : ℕ
  pub writes_new : ℕ
  pub failed_old : List ℕ
  pub failed : List ℕ

pub record SinkSeen : Type 0 where
  pub tells : Bool
  pub old : List ℕ
  pub new : List ℕ
  pub faults_old : ℕ
  pub faults_new : ℕ

abbrev pub Unchanged : ShelfSeen → Type 0
Unchanged shelf = IsTrue shelf.tells → SameContents shelf.old shelf.new

abbrev pub LastFailedStays : ShelfSeen → Type 0
LastFailedStays shelf = IsTrue shelf.tells_failed → shelf.failed ≡ shelf.failed_old

abbrev pub Grew : List ℕ → SinkSeen → Type 0
Grew line sink = IsTrue sink.tells → sink.new ≡ sink.old ++ line

abbrev pub GrewInPart : List ℕ → SinkSeen → Type 0
GrewInPart line sink = Rose sink.faults_old sink.faults_new × (IsTrue sink.tells → AddsPrefix line sink.old sink.new)

abbrev pub Told : List ℕ → SinkSeen → Type 0
Told line sink = Grew line sink ⊎ GrewInPart line sink

-- ---- each status
abbrev pub status_if : Bool → Status
status_if true = Done
status_if false = Clean

abbrev pub status_of : Ending → Status
status_of ending = status_if ending.done

pub record Leaves (ending : Ending) (shelf : ShelfSeen) (sink : SinkSeen) (status : Status) : Type 0 where
  pub as_it_says : status ≡ status_of ending
  pub written : IsTrue shelf.tells → Replaced ending.files shelf.old shelf.new
  pub told : Grew ending.summary sink

pub record IsFinished {Job : Type 0} (p : Program Job) (words : List (List ℕ)) (shelf : ShelfSeen) (sink : SinkSeen) (status : Status) : Type 0 where
  pub job : Job
  pub formed : p.form words ≡ Some job
  pub read : LastFailedStays shelf
  pub ends : Sees shelf.tells shelf.old (needed p words) (λ seen. EndsAs p words seen (λ ending. Leaves ending shelf sink status))

pub record IsBadWords {Job : Type 0} (p : Program Job) (words : List (List ℕ)) (shelf : ShelfSeen) (sink : SinkSeen) : Type 0 where
  pub unformed : p.form words ≡ None
  pub unread : shelf.reads_new ≡ shelf.reads_old
  pub read : LastFailedStays shelf
  pub writes : shelf.writes_new ≡ shelf.writes_old
  pub unchanged : Unchanged shelf
  pub told : Told p.usage sink

pub record IsRefused {Job : Type 0} (p : Program Job) (words : List (List ℕ)) (shelf : ShelfSeen) (sink : SinkSeen) : Type 0 where
  pub job : Job
  pub formed : p.form words ≡ Some job
  pub line : List ℕ
  pub refused : Sees shelf.tells shelf.old (needed p words) (λ seen. expected p words seen ≡ Refuses line)
  pub read : LastFailedStays shelf
  pub writes : shelf.writes_new ≡ shelf.writes_old
  pub unchanged : Unchanged shelf
  pub told : Told line sink

pub record IsReadFault {Job : Type 0} (p : Program Job) (words : List (List ℕ)) (shelf : ShelfSeen) (sink : SinkSeen) : Type 0 where
  pub job : Job
  pub formed : p.form words ≡ Some job
  pub rose : Rose shelf.reads_old shelf.reads_new
  pub path : List ℕ
  pub place : ℕ
  pub needed : slice_get (p.needed job) place ≡ Some path
  pub last : IsTrue shelf.tells_failed → path ≡ shelf.failed
  pub writes : shelf.writes_new ≡ shelf.writes_old
  pub unchanged : Unchanged shelf
  pub told : Told (read_failed path) sink

abbrev pub IsOutput : {Job : Type 0} → Program Job → List (List ℕ) → ℕ → List ℕ → Type 0
IsOutput {Job} p words place path = (job : Job) × (p.form words ≡ Some job) × (slice_get (p.written job) place ≡ Some path)

abbrev pub WrittenUpTo : Ending → ℕ → List ℕ → ShelfSeen → Type 0
WrittenUpTo ending place path shelf = (other : List ℕ) → other ≢ path → shelf.new other ≡ after (take place ending.files) shelf.old other

pub record IsWriteStopped {Job : Type 0} (p : Program Job) (words : List (List ℕ)) (ending : Ending) (shelf : ShelfSeen) (sink : SinkSeen) : Type 0 where
  pub rose : Rose shelf.writes_old shelf.writes_new
  pub path : List ℕ
  pub place : ℕ
  pub output : IsOutput p words place path
  pub written : IsTrue shelf.tells → WrittenUpTo ending place path shelf
  pub told : Told (write_failed path) sink

pub record IsUntold (ending : Ending) (shelf : ShelfSeen) (sink : SinkSeen) : Type 0 where
  pub written : IsTrue shelf.tells → Replaced ending.files shelf.old shelf.new
  pub told : GrewInPart ending.summary sink

pub record IsWriteFault {Job : Type 0} (p : Program Job) (words : List (List ℕ)) (shelf : ShelfSeen) (sink : SinkSeen) : Type 0 where
  pub job : Job
  pub formed : p.form words ≡ Some job
  pub read : LastFailedStays shelf
  pub ends : Sees shelf.tells shelf.old (needed p words) (λ seen. EndsAs p words seen (λ ending.
      IsWriteStopped p words ending shelf sink ⊎ IsUntold ending shelf sink))

pub record IsMemory {Job : Type 0} (p : Program Job) (words : List (List ℕ)) (shelf : ShelfSeen) (sink : SinkSeen) : Type 0 where
  pub job : Job
  pub formed : p.form words ≡ Some job
  pub writes : shelf.writes_new ≡ shelf.writes_old
  pub unchanged : Unchanged shelf
  pub told : Told out_of_memory sink

abbrev pub Outcome : {Job : Type 0} → Program Job → List (List ℕ) → ShelfSeen → SinkSeen → Status → Type 0
Outcome p words shelf sink Clean = IsFinished p words shelf sink Clean
Outcome p words shelf sink Done = IsFinished p words shelf sink Done
Outcome p words shelf sink BadWords = IsBadWords p words shelf sink
Outcome p words shelf sink LoadRefused = IsRefused p words shelf sink
Outcome p words shelf sink ReadFault = IsReadFault p words shelf sink
Outcome p words shelf sink WriteFault = IsWriteFault p words shelf sink
Outcome p words shelf sink Memory = IsMemory p words shelf sink

-- ---- parts of a run

abbrev pub StoppedWith : Stop → SinkSeen → Status → Type 0
StoppedWith (Refused line) sink status = (status ≡ LoadRefused) × Told line sink
StoppedWith (ReadFailed line) sink status = (status ≡ ReadFault) × Told line sink
StoppedWith stops.Memory sink status = (status ≡ Memory) × Told out_of_memory sink

pub record StopsWriting (plan : Plan) (shelf : ShelfSeen) (sink : SinkSeen) : Type 0 where
  pub rose : Rose shelf.writes_old shelf.writes_new
  pub line : List ℕ
  pub written : StoppedAt line plan.outputs.items shelf.tells shelf.old shelf.new
  pub told : Told line sink

pub record WritesAll (plan : Plan) (shelf : ShelfSeen) : Type 0 where
  pub written : IsTrue shelf.tells → Replaced (files_of plan.outputs.items) shelf.old shelf.new

abbrev pub Finished : Plan → ShelfSeen → SinkSeen → Status → Type 0
Finished plan shelf sink status =
    ((status ≡ status_if plan.done) × WritesAll plan shelf × Grew plan.summary sink)
    ⊎ ((status ≡ WriteFault) × (StopsWriting plan shelf sink ⊎ (WritesAll plan shelf × GrewInPart plan.summary sink)))

-- ---- what a caller reads of a status

abbrev pub IsNeeded : {Job : Type 0} → Program Job → List (List ℕ) → List ℕ → Type 0
IsNeeded {Job} p words path = (job : Job) × (p.form words ≡ Some job) × (place : ℕ) × (slice_get (p.needed job) place ≡ Some path)

abbrev pub WritesNothing : Status → Type 0
WritesNothing BadWords = Unit {0}
WritesNothing LoadRefused = Unit {0}
WritesNothing ReadFault = Unit {0}
WritesNothing Memory = Unit {0}
WritesNothing _ = ⊥

abbrev pub FinishesWell : Status → Type 0
FinishesWell Clean = Unit {0}
FinishesWell Done = Unit {0}
FinishesWell _ = ⊥

abbrev pub MayWrite : Status → Type 0
MayWrite Clean = Unit {0}
MayWrite Done = Unit {0}
MayWrite WriteFault = Unit {0}
MayWrite _ = ⊥

abbrev pub PassesReads : Status → Type 0
PassesReads Clean = Unit {0}
PassesReads Done = Unit {0}
PassesReads BadWords = Unit {0}
PassesReads LoadRefused = Unit {0}
PassesReads WriteFault = Unit {0}
PassesReads _ = ⊥

abbrev pub WrittenWhole : {Job : Type 0} → Program Job → List (List ℕ) → Contents → Contents → Type 0
WrittenWhole p words old new = EndsAs p words (seen_in p words old) (λ ending. Replaced ending.files old new)
