-- How a run ends by what was planned.
--
-- A plan is None where the words have no listed form; else it is what is left to be done, or why the run stops before it writes.
-- Untouched shelf                 nothing of the shelf changed
-- IsPlanned p job answer shelf    what was seen at the paths that the job needs gives the plan, or the line that refuses; a read that
--                                 failed says nothing; no claim if memory ran out
-- Prepares p job answer shelf     so it is, and the shelf was only read: with a read that failed the line names a path that the
--                                 job needs
-- Plans p words planned shelf     the words have no form, and the shelf is untouched; or they have one, and its job was prepared
-- HasRoom planned spare           there is room for the files of the plan
-- Ends usage planned g old new sink status   how a run ends after that: without a form the usage is told, with a stop its line, both
--                                 over the same shelf; with a plan its files are written, and no other path becomes that of the last
--                                 failed read
use Rattle.std.specs.Prelude.{◌≡◌, ◌≤◌, ℕ, List, length, Option, Some, None, Result, Ok, Err, IfOk, ⊤}
use Rattle.shelf_io.specs.declared.shelf.Shelf.{Ghosts as ShelfGhosts}
use Rattle.run_endings.specs.Endings.{Program, Refuses, Sees}
use Rattle.run_endings.specs.Outcome.{Finished, LastFailedStays, ShelfSeen, SinkSeen, StoppedWith, Told, Unchanged}
use Rattle.run_endings.specs.Planning.{IsPlanOf, OnlyRead, UnreadAs}
use Rattle.run_endings.specs.Promises.{shelf_seen}
use Rattle.run_endings.specs.declared.plan.Plan.{Plan}
use Rattle.run_endings.specs.declared.status.Status.{Status}
use Rattle.run_endings.specs.declared.status.Status.TheVariants.{BadWords}
use Rattle.run_endings.specs.declared.stop.Stop.{Stop}
use Rattle.run_endings.specs.declared.stop.Stop.TheVariants.{Refused, ReadFailed, Memory}

pub record Untouched (shelf : ShelfSeen) : Type 0 where
  pub unchanged : Unchanged shelf
  pub reads : shelf.reads_new ≡ shelf.reads_old
  pub writes : shelf.writes_new ≡ shelf.writes_old
  pub failed : LastFailedStays shelf

-- ---- what was planned

abbrev pub IsPlanned : {Job : Type 0} → Program Job → Job → Result Plan Stop → ShelfSeen → Type 0
IsPlanned p job (Ok plan) shelf = Sees shelf.tells shelf.old (p.needed job) (λ seen. IsPlanOf plan (p.expected job seen))
IsPlanned p job (Err (Refused line)) shelf = Sees shelf.tells shelf.old (p.needed job) (λ seen. p.expected job seen ≡ Refuses line)
IsPlanned p job (Err (ReadFailed line)) shelf = ⊤
IsPlanned p job (Err Memory) shelf = ⊤

pub record Prepares {Job : Type 0} (p : Program Job) (job : Job) (answer : Result Plan Stop) (shelf : ShelfSeen) : Type 0 where
  pub planned : IsPlanned p job answer shelf
  pub unread : UnreadAs answer (p.needed job) shelf
  pub only_read : OnlyRead shelf

abbrev pub Plans : {Job : Type 0} → Program Job → List (List ℕ) → Option (Result Plan Stop) → ShelfSeen → Type 0
Plans p words None shelf = (p.form words ≡ None) × Untouched shelf
Plans {Job} p words (Some answer) shelf = (job : Job) × (p.form words ≡ Some job) × Prepares p job answer shelf

abbrev pub HasRoom : Option (Result Plan Stop) → ℕ → Type 0
HasRoom None spare = ⊤
HasRoom (Some answer) spare = IfOk answer (λ plan. length plan.outputs.items ≤ spare)

-- ---- how a run ends after that

abbrev pub Ends : {S : Type 0} → List ℕ → Option (Result Plan Stop) → ShelfGhosts S → S → S → SinkSeen → Status → Type 0
Ends usage None g old new sink status = (status ≡ BadWords) × Told usage sink × (new ≡ old)
Ends usage (Some (Err stop)) g old new sink status = StoppedWith stop sink status × (new ≡ old)
Ends usage (Some (Ok plan)) g old new sink status = Finished plan (shelf_seen g old new) sink status × LastFailedStays (shelf_seen g old new)
