-- Folders are read and judged one after another: no file of a folder is asked for before the folders before it are found right.
-- OnUnread result P               P of the line, where a file could not be read
-- IsReached tells holds folders path   the path is that of a file of one of the folders, and by what was seen none of the folders
--                                 before it is refused
-- ComesTo job tells holds path    the path is one that the job comes to: of `ages` it is reached; `desk`, `undo` and `conform` read all before they
--                                 judge
-- NamesPath P shelf line          the line names a path as one that could not be read, which is the last failed one where that is
--                                 told; and P of the path
-- PlansInOrder words planned shelf   where a file could not be read, the line names a path that the job of the words comes to
-- ReadsInOrder words shelf sink   the words have a form, and the line that is told names a path that their job comes to
use Rattle.std.specs.Prelude.{◌≡◌, ℕ, Bool, IsTrue, List, ◌∷◌, ◌++◌, Option, Some, None, Result, Ok, Err, ⊤, slice_get}
use Rattle.run_endings.specs.Endings.{Contents}
use Rattle.run_endings.specs.Outcome.{ShelfSeen, SinkSeen, Told}
use Rattle.run_endings.specs.Printed.{read_failed}
use Rattle.run_endings.specs.declared.plan.Plan.{Plan}
use Rattle.run_endings.specs.declared.stop.Stop.{Stop}
use Rattle.run_endings.specs.declared.stop.Stop.TheVariants.{Refused, ReadFailed, Memory}
use Rattle.run_inputs.specs.Paths.{sources_in}
use Rattle.ucdshop_more_core.specs.Chaining.{AreFine}
use Rattle.ucdshop_more_core.specs.Run.{Job, Ages, Conform, Desk, Undo, form}

abbrev pub OnUnread : {A : Type 0} → Result A Stop → (List ℕ → Type 0) → Type 0
OnUnread (Ok _) P = ⊤
OnUnread (Err (Refused line)) P = ⊤
OnUnread (Err (ReadFailed line)) P = P line
OnUnread (Err Memory) P = ⊤

pub record IsReached (tells : Bool) (holds : Contents) (folders : List (List ℕ)) (path : List ℕ) : Type 0 where
  pub before : List (List ℕ)
  pub folder : List ℕ
  pub later : List (List ℕ)
  pub here : folders ≡ before ++ folder ∷ later
  pub place : ℕ
  pub file : slice_get (sources_in folder) place ≡ Some path
  pub fine : AreFine tells holds before

abbrev pub ComesTo : Job → Bool → Contents → List ℕ → Type 0
ComesTo (Desk input events output) tells holds path = ⊤
ComesTo (Undo input script output depth) tells holds path = ⊤
ComesTo (Conform input tests output) tells holds path = ⊤
ComesTo (Ages output folders) tells holds path = IsReached tells holds folders path

pub record NamesPath (P : List ℕ → Type 0) (shelf : ShelfSeen) (line : List ℕ) : Type 0 where
  pub path : List ℕ
  pub told : line ≡ read_failed path
  pub last : IsTrue shelf.tells_failed → path ≡ shelf.failed
  pub reached : P path

pub record ReadsInOrder (words : List (List ℕ)) (shelf : ShelfSeen) (sink : SinkSeen) : Type 0 where
  pub job : Job
  pub formed : form words ≡ Some job
  pub line : List ℕ
  pub names : NamesPath (ComesTo job shelf.tells shelf.old) shelf line
  pub told : Told line sink

abbrev pub PlansInOrder : List (List ℕ) → Option (Result Plan Stop) → ShelfSeen → Type 0
PlansInOrder words None shelf = ⊤
PlansInOrder words (Some answer) shelf = OnUnread answer (λ line. (job : Job) × (form words ≡ Some job) × NamesPath (ComesTo job shelf.tells shelf.old) shelf line)
