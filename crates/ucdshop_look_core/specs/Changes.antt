-- What `changes` tells: which records each group of a script changes, and how.
-- what_differs R S c           the properties that differ between the records R and S of the code point c
-- points_section line R S points   of code points that a group on this line changes: its line; the code points as maximal ascending
--                              spans, with their total; and of each the properties that differ between its records R and S
-- group_section line old new   that of a group that turns the old files into the new ones: of all code points whose records differ, with
--                              their records over the old files and over the new ones
-- group_told line files answer that of a group that is accepted; of a refused one the line that the log has
-- Stage                        a command, and the files that it is carried out on
-- told stage                   what is told of it: that of a group; nothing of a question
-- stage_refused stage          it is a group, and is refused
-- files_after stage            the files after it, as a session has them
-- stage_on files command       the command on these files
-- stages files commands        the commands in order, each with the files as those before it leave them
-- stages_ending all            the ending: no file, what is told of each of them, and whether a group was refused
-- changes_ending inputs        the ending on these inputs
use Rattle.std.specs.Prelude.{ℕ, Bool, false, List, [], ◌∷◌, ◌++◌, Result, Ok, Err, is_err, codes, decimal}
use Rattle.std.specs.List.{flat_map, list_any}
use Rattle.ucd_model.specs.DerivedText.{line_end}
use Rattle.ucd_model.specs.Records.{Record, record_at}
use Rattle.release_rows.specs.FileItems.{FileItem}
use Rattle.script_lines.specs.declared.command.Command.{Command}
use Rattle.script_lines.specs.declared.command.What.{What}
use Rattle.script_lines.specs.declared.command.What.TheVariants.{Group, Question}
use Rattle.edit_session.specs.Groups.{changed, files_facts, group_answer}
use Rattle.edit_session.specs.declared.apply_stop.Refused.{Refused}
use Rattle.record_lines.specs.RecordTexts.{change_text}
use Rattle.run_endings.specs.Endings.{Ending}
use Rattle.run_inputs.specs.GroupLines.{refused_line}
use Rattle.set_answers.specs.SetTexts.{members_text}
use Rattle.ucdshop_jobs.specs.Run.{Inputs}
use Rattle.ucdshop_jobs.specs.Session.{started, step_by}
use Rattle.ucdshop_look_core.specs.PointSpans.{point_spans}

-- ---- a group

unfoldable pub what_differs : (ℕ → Record) → (ℕ → Record) → ℕ → List ℕ
what_differs R S c = change_text c (R c) (S c)

abbrev pub points_section : ℕ → (ℕ → Record) → (ℕ → Record) → List ℕ → List ℕ
points_section line R S points = codes "# line " ++ decimal line ++ line_end ++ members_text (point_spans points) ++ flat_map (what_differs R S) points

abbrev pub group_section : ℕ → List (List FileItem) → List (List FileItem) → List ℕ
group_section line old new = points_section line (record_at (files_facts old)) (record_at (files_facts new)) (changed (files_facts old) (files_facts new))

abbrev pub group_told : ℕ → List (List FileItem) → Result (List (List FileItem)) Refused → List ℕ
group_told line files (Ok new) = group_section line files new
group_told line files (Err why) = refused_line line why

-- ---- the commands of a script

pub record Stage : Type 0 where
  pub files : List (List FileItem)
  pub command : Command

abbrev pub what_told : List (List FileItem) → ℕ → What → List ℕ
what_told files line (Group ops) = group_told line files (group_answer files ops)
what_told files line (Question text) = []

abbrev pub told : Stage → List ℕ
told stage = what_told stage.files stage.command.line stage.command.what

abbrev pub what_refused : List (List FileItem) → What → Bool
what_refused files (Group ops) = is_err (group_answer files ops)
what_refused files (Question text) = false

abbrev pub stage_refused : Stage → Bool
stage_refused stage = what_refused stage.files stage.command.what

abbrev pub what_leaves : List (List FileItem) → ℕ → What → List (List FileItem)
what_leaves files line what = (step_by (started files) line what).files

abbrev pub files_after : Stage → List (List FileItem)
files_after stage = what_leaves stage.files stage.command.line stage.command.what

abbrev pub stage_on : List (List FileItem) → Command → Stage
stage_on files command = record { files = files; command = command }

abbrev pub stages : List (List FileItem) → List Command → List Stage
stages files [] = []
stages files (command ∷ rest) = stage_on files command ∷ stages (files_after (stage_on files command)) rest

-- ---- the run

abbrev pub stages_ending : List Stage → Ending
stages_ending all = record { files = []; summary = flat_map told all; done = list_any stage_refused all }

abbrev pub changes_ending : Inputs → Ending
changes_ending inputs = stages_ending (stages inputs.files inputs.commands)
