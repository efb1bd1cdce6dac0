-- What `undo` is given: a release, and what is asked of a history of it; or why it is refused.
-- Draft                   the files of a release, and the moves
-- with_moves files moves  the files with the moves; or the line that refuses these
-- draft_verdict input script seen   the release in a folder and the moves of the script behind it, of which this was seen; or the line
--                         that refuses the first of these: a file of the folder, a code point, the script
-- draft_of drafted        what the code holds
-- AreWellFormed sections       the groups can be carried out
use Rattle.std.specs.Prelude.{ℕ, List, Result, Ok, Err, All}
use Rattle.release_rows.specs.FileItems.{FileItem}
use Rattle.run_endings.specs.Endings.{Seen}
use Rattle.run_inputs.specs.Held.{held_at, source_held}
use Rattle.run_inputs.specs.Refusals.{folder_verdict}
use Rattle.run_inputs.specs.Verdict.{and_then}
use Rattle.script_lines.specs.Groups.{IsWellFormed}
use Rattle.ucdshop_more_core.specs.Moves.{Move, all_moves, moves_told}
use Rattle.ucdshop_more_core.specs.declared.draft.Drafted.{Drafted}
use Rattle.ucdshop_more_core.specs.declared.sections.Section.{Section}

pub record Draft : Type 0 where
  pub files : List (List FileItem)
  pub moves : List Move

abbrev pub with_moves : List (List FileItem) → Result (List Move) (List ℕ) → Result Draft (List ℕ)
with_moves files (Ok moves) = Ok (record { files = files; moves = moves })
with_moves files (Err line) = Err line

-- a folder has nine files
abbrev pub draft_verdict : List ℕ → List ℕ → Seen → Result Draft (List ℕ)
draft_verdict input script seen = and_then (folder_verdict input (source_held seen 0)) (λ files. with_moves files (moves_told script (held_at seen 9)))

-- ---- what the code holds

abbrev pub draft_of : Drafted → Draft
draft_of drafted = record { files = drafted.bench.current; moves = all_moves drafted.sections }

abbrev pub AreWellFormed : List Section → Type 0
AreWellFormed sections = All (λ section. All IsWellFormed section.commands) sections
