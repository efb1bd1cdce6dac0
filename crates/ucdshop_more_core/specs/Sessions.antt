-- What `desk` is given: a release, and the turns of editors at a desk over it; or why it is refused.
-- Session                 the files of a release, and the turns
-- with_turns files turns  the files with the turns; or the line that refuses these
-- session_verdict input events seen   the release in a folder and the turns of the file behind it, of which this was seen; or the line
--                         that refuses the first of these: a file of the folder, a code point, the file of events
-- session_of sitting      what the code holds
-- AreWellFormed requests       the groups behind the marks can be carried out
-- AreFew requests         there are fewer than revisions are counted
use Rattle.std.specs.Prelude.{◌<◌, ℕ, List, length, Result, Ok, Err, All}
use Rattle.release_rows.specs.FileItems.{FileItem}
use Rattle.run_endings.specs.Endings.{Seen}
use Rattle.run_inputs.specs.Held.{held_at, source_held}
use Rattle.run_inputs.specs.Refusals.{folder_verdict}
use Rattle.run_inputs.specs.Verdict.{and_then}
use Rattle.script_lines.specs.Groups.{IsWellFormed}
use Rattle.ucdshop_more_core.specs.Turns.{Turn, request_turns, turns_told}
use Rattle.ucdshop_more_core.specs.declared.requests.Request.{Request}
use Rattle.ucdshop_more_core.specs.declared.sitting.Sitting.{Sitting}

pub record Session : Type 0 where
  pub files : List (List FileItem)
  pub turns : List Turn

abbrev pub with_turns : List (List FileItem) → Result (List Turn) (List ℕ) → Result Session (List ℕ)
with_turns files (Ok turns) = Ok (record { files = files; turns = turns })
with_turns files (Err line) = Err line

-- a folder has nine files
abbrev pub session_verdict : List ℕ → List ℕ → Seen → Result Session (List ℕ)
session_verdict input events seen = and_then (folder_verdict input (source_held seen 0)) (λ files. with_turns files (turns_told events (held_at seen 9)))

-- ---- what the code holds

abbrev pub session_of : Sitting → Session
session_of sitting = record { files = sitting.bench.current; turns = request_turns sitting.requests }

abbrev pub AreWellFormed : List Request → Type 0
AreWellFormed requests = All (λ request. All IsWellFormed request.commands) requests

abbrev pub AreFew : List Request → Type 0
AreFew requests = length requests < 4294967295
