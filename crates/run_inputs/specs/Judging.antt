-- Judging what was read.
-- refusal_of stop                 the refusal that the stop tells; None if memory ran out
-- JudgedAs view result expected   a result, seen by view, is what was expected; no claim if memory ran out
-- ToldAs view result expected     the same of a result whose refusal is a line; no read failed
-- GivesAs result expected         the bytes are those that were expected, or the refusal is
-- FaultyBy file stop why          a refusal of a file by the line and the rule that it does not load by; no claim if memory ran out
-- BreaksBy stop why               a refusal of a release by the code point and the rule that have no bench; no claim if memory ran out
-- TellsFolder folder told stop    a refusal of this folder by its line; no claim if memory ran out
-- TellsScript path told refusal   a refusal of the script at this path by its line; no claim if memory ran out
-- Loads file expected old new     the file has the items that were expected, all other files and their number stay, and nothing is
--                                 prepared where nothing was
-- LoadsFile result expected file old new   so it is, or the refusal is the expected one; no claim if memory ran out
use Rattle.std.specs.Prelude.{◌≡◌, ◌≢◌, ℕ, List, length, Result, Ok, Err, ⊤, Option, Some, None}
use Rattle.std.specs.Borrow.{Bor}
use Rattle.ucd_points.specs.Answers.{AnswersBy}
use Rattle.release_rows.specs.Releases.{ReleaseItems, items_now, FileItem, SourceFile}
use Rattle.release_rows.specs.declared.load_stop.LoadStop.{LoadStop}
use Rattle.release_rows.specs.declared.load_stop.LoadStop.TheVariants.{Fault, Memory as LoadMemory}
use Rattle.edit_session.specs.Benches.{HasNothingPrepared}
use Rattle.edit_session.specs.declared.open_stop.OpenStop.{OpenStop}
use Rattle.edit_session.specs.declared.open_stop.OpenStop.TheVariants.{Invalid}
use Rattle.run_endings.specs.declared.stop.Stop.{Stop}
use Rattle.run_endings.specs.declared.stop.Stop.TheVariants as told
use Rattle.run_inputs.specs.Refusals.{folder_line, script_line}
use Rattle.run_inputs.specs.declared.refusal.FileRule.{FileRule}
use Rattle.run_inputs.specs.declared.refusal.FolderRefusal.{FolderRefusal}
use Rattle.run_inputs.specs.declared.refusal.FolderRefusal.TheVariants.{FileLine, Point}
use Rattle.run_inputs.specs.declared.refusal.FolderStop.{FolderStop}
use Rattle.run_inputs.specs.declared.refusal.FolderStop.TheVariants.{Refused, Memory}
use Rattle.run_inputs.specs.declared.refusal.ScriptRefusal.{ScriptRefusal}

abbrev pub refusal_of : FolderStop → Option FolderRefusal
refusal_of (Refused refusal) = Some refusal
refusal_of Memory = None

abbrev pub JudgedAs : {A B : Type 0} → (A → B) → Result A FolderStop → Result B FolderRefusal → Type 0
JudgedAs view result expected = AnswersBy view refusal_of result expected

abbrev pub ToldAs : {A B : Type 0} → (A → B) → Result A Stop → Result B (List ℕ) → Type 0
ToldAs view (Ok value) expected = expected ≡ Ok (view value)
ToldAs view (Err (told.Refused line)) expected = expected ≡ Err line
ToldAs view (Err (told.ReadFailed line)) expected = ⊥
ToldAs view (Err told.Memory) expected = ⊤

abbrev pub GivesAs : Result (Bor (List ℕ)) FileRule → Result (List ℕ) FileRule → Type 0
GivesAs result expected = AnswersBy (λ (bytes : Bor (List ℕ)). bytes.now) Some result expected

abbrev pub FaultyBy : SourceFile → FolderStop → LoadStop → Type 0
FaultyBy file (Refused refusal) (Fault line rule) = refusal ≡ FileLine file line rule
FaultyBy file Memory LoadMemory = ⊤
FaultyBy file _ stop = ⊥

abbrev pub BreaksBy : FolderStop → OpenStop → Type 0
BreaksBy (Refused refusal) (Invalid rule point) = refusal ≡ Point (record { point = point; rule = rule })
BreaksBy Memory stop = ⊤
BreaksBy _ stop = ⊥

abbrev pub TellsFolder : List ℕ → Stop → FolderStop → Type 0
TellsFolder folder (told.Refused line) (Refused refusal) = line ≡ folder_line folder refusal
TellsFolder folder told.Memory stop = ⊤
TellsFolder folder _ stop = ⊥

abbrev pub TellsScript : List ℕ → Stop → ScriptRefusal → Type 0
TellsScript path (told.Refused line) refusal = line ≡ script_line path refusal
TellsScript path told.Memory refusal = ⊤
TellsScript path _ refusal = ⊥

pub record Loads (file : SourceFile) (expected : Result (List FileItem) FolderRefusal) (old new : ReleaseItems) : Type 0 where
  pub items : expected ≡ Ok (items_now new file)
  pub others : (other : SourceFile) → other ≢ file → items_now new other ≡ items_now old other
  pub files : length new.current ≡ length old.current
  pub still : HasNothingPrepared old → HasNothingPrepared new

abbrev pub LoadsFile : Result (Unit {0}) FolderStop → Result (List FileItem) FolderRefusal → SourceFile → ReleaseItems → ReleaseItems → Type 0
LoadsFile (Ok _) expected file old new = Loads file expected old new
LoadsFile (Err (Refused refusal)) expected file old new = expected ≡ Err refusal
LoadsFile (Err Memory) expected file old new = ⊤
