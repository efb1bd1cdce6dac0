-- The lines that refuse what was read.
-- folder_line folder why        the line of a refusal of a folder: the path of the file, the number of the line, 0 for the file as a
--                               whole, and the rule's code; or the folder, the code point, and the rule's code. An absent file is G01
-- script_rule_code rule         the code of a rule that a script breaks; with E6 the rule that the row or the key breaks
-- script_line path why          the line of a refusal of the script at a path: the path, the number of the line, 0 for the file as a
--                               whole, and the rule's code
-- told line result              a refusal by the line that tells it
-- folder_verdict folder held    the items of the source files of this folder, of which this is held; or the line that refuses it
-- script_told path held         the commands of what is held of the script at this path; or the line that refuses it
use Rattle.std.specs.Prelude.{ℕ, List, ◌++◌, Option, Result, Ok, Err, codes}
use Rattle.release_rows.specs.FileItems.{FileItem, SourceFile}
use Rattle.script_lines.specs.declared.command.Command.{Command}
use Rattle.script_lines.specs.declared.stop.ScriptRule.{ScriptRule}
use Rattle.script_lines.specs.declared.stop.ScriptRule.TheVariants.{E1, E2, E3, E4, E5, E6}
use Rattle.run_inputs.specs.Paths.{source_in}
use Rattle.run_inputs.specs.RefusalLines.{file_rule_code, load_rule_code, refused, refused_point, row_rule_code}
use Rattle.run_inputs.specs.Verdict.{release_verdict, script_verdict}
use Rattle.run_inputs.specs.declared.refusal.FolderRefusal.{FolderRefusal}
use Rattle.run_inputs.specs.declared.refusal.FolderRefusal.TheVariants.{NoFile, FileLine, Point}
use Rattle.run_inputs.specs.declared.refusal.ScriptRefusal.{ScriptRefusal}
use Rattle.run_inputs.specs.declared.refusal.ScriptRefusal.TheVariants.{Whole, Line}

abbrev pub folder_line : List ℕ → FolderRefusal → List ℕ
folder_line folder (NoFile file) = refused (source_in folder file) 0 (codes "G01")
folder_line folder (FileLine file line rule) = refused (source_in folder file) line (load_rule_code rule)
folder_line folder (Point broken) = refused_point folder broken

abbrev pub script_rule_code : ScriptRule → List ℕ
script_rule_code E1 = codes "E1"
script_rule_code E2 = codes "E2"
script_rule_code E3 = codes "E3"
script_rule_code E4 = codes "E4"
script_rule_code E5 = codes "E5"
script_rule_code (E6 fault) = codes "E6 " ++ row_rule_code fault

abbrev pub script_line : List ℕ → ScriptRefusal → List ℕ
script_line path (Whole rule) = refused path 0 (file_rule_code rule)
script_line path (Line line rule) = refused path line (script_rule_code rule)

abbrev pub told : {A E : Type 0} → (E → List ℕ) → Result A E → Result A (List ℕ)
told line (Ok value) = Ok value
told line (Err why) = Err (line why)

abbrev pub folder_verdict : List ℕ → (SourceFile → Option (List ℕ)) → Result (List (List FileItem)) (List ℕ)
folder_verdict folder held = told (folder_line folder) (release_verdict held)

abbrev pub script_told : List ℕ → Option (List ℕ) → Result (List Command) (List ℕ)
script_told path held = told (script_line path) (script_verdict held)
