-- What was read gives, or why it is refused.
-- and_then result more        what more makes of the value; a refusal stays
-- file_verdict file held      the items of what is held of a source file; an absent file is refused, and one with a fault
-- all_items verdict_on files  the items of each file, in order, or the refusal of the first file that has one
-- files_verdict held          the same of the source files of a folder, of which this is held
-- valid_files files broken    the files where no code point breaks a rule of a valid release, else the refusal
-- release_verdict held        the items of the source files of a folder, of which this is held, where each file loads and each code
--                             point is valid; else the refusal of the first file, or that of the least code point, by its first rule
-- release_items files         a release with these items now, and nothing prepared
-- second_verdict held         the bytes of what is held of the file beside a folder; an absent one is refused, and one that is too long
-- script_verdict held         the commands of what is held of the script; an absent one is refused, one that is too long, and one
--                             with a fault
use Rattle.std.specs.Prelude.{ℕ, List, [], ◌∷◌, length, Option, Some, None, Result, Ok, Err, nat_lt, if◌then◌else◌}
use Rattle.ucd_points.specs.Limits.{file_limit}
use Rattle.ucd_points.specs.SourceFiles.{source_files}
use Rattle.ucd_model.specs.Validity.{first_broken}
use Rattle.ucd_facts.specs.declared.form.Broken.{Broken}
use Rattle.release_rows.specs.Loading.{LoadFault, load_or_fault}
use Rattle.release_rows.specs.Releases.{ReleaseItems, FileItem, SourceFile}
use Rattle.script_lines.specs.Scripts.{ScriptFault, script_or_fault}
use Rattle.script_lines.specs.declared.command.Command.{Command}
use Rattle.edit_session.specs.Groups.{files_facts}
use Rattle.run_inputs.specs.declared.refusal.FileRule.{FileRule}
use Rattle.run_inputs.specs.declared.refusal.FileRule.TheVariants.{G01, G02}
use Rattle.run_inputs.specs.declared.refusal.FolderRefusal.{FolderRefusal}
use Rattle.run_inputs.specs.declared.refusal.FolderRefusal.TheVariants.{NoFile, FileLine, Point}
use Rattle.run_inputs.specs.declared.refusal.ScriptRefusal.{ScriptRefusal}
use Rattle.run_inputs.specs.declared.refusal.ScriptRefusal.TheVariants.{Whole, Line}

abbrev pub and_then : {A B E : Type 0} → Result A E → (A → Result B E) → Result B E
and_then (Ok value) more = more value
and_then (Err why) more = Err why

-- ---- the source files

abbrev pub told_items : SourceFile → Result (List FileItem) LoadFault → Result (List FileItem) FolderRefusal
told_items file (Ok items) = Ok items
told_items file (Err fault) = Err (FileLine file fault.line fault.rule)

unfoldable pub file_verdict : SourceFile → Option (List ℕ) → Result (List FileItem) FolderRefusal
file_verdict file None = Err (NoFile file)
file_verdict file (Some bytes) = told_items file (load_or_fault file bytes)

abbrev pub all_items : (SourceFile → Result (List FileItem) FolderRefusal) → List SourceFile → Result (List (List FileItem)) FolderRefusal
all_items verdict_on [] = Ok []
all_items verdict_on (file ∷ files) = and_then (verdict_on file) (λ items. and_then (all_items verdict_on files) (λ lists. Ok (items ∷ lists)))

abbrev pub files_verdict : (SourceFile → Option (List ℕ)) → Result (List (List FileItem)) FolderRefusal
files_verdict held = all_items (λ file. file_verdict file (held file)) source_files

-- ---- the code points

abbrev pub valid_files : List (List FileItem) → Option Broken → Result (List (List FileItem)) FolderRefusal
valid_files files None = Ok files
valid_files files (Some broken) = Err (Point broken)

abbrev pub release_verdict : (SourceFile → Option (List ℕ)) → Result (List (List FileItem)) FolderRefusal
release_verdict held = and_then (files_verdict held) (λ files. valid_files files (first_broken (files_facts files)))

abbrev pub release_items : List (List FileItem) → ReleaseItems
release_items files = record { current = files; prepared = files }

-- ---- the file beside the folder

abbrev pub second_verdict : Option (List ℕ) → Result (List ℕ) FileRule
second_verdict None = Err G01
second_verdict (Some bytes) = if nat_lt file_limit (length bytes) then Err G02 else Ok bytes

abbrev pub told_commands : Result (List Command) ScriptFault → Result (List Command) ScriptRefusal
told_commands (Ok commands) = Ok commands
told_commands (Err fault) = Err (Line fault.line fault.rule)

abbrev pub commands_in : Result (List ℕ) FileRule → Result (List Command) ScriptRefusal
commands_in (Ok bytes) = told_commands (script_or_fault bytes)
commands_in (Err rule) = Err (Whole rule)

unfoldable pub script_verdict : Option (List ℕ) → Result (List Command) ScriptRefusal
script_verdict held = commands_in (second_verdict held)
