-- The lines that refuse what was read, each ended by LF, and the codes of the rules.
-- refused path line rule   a file is refused: the number of the line, 0 for the file as a whole, and the rule's code
-- refused_point folder b   a code point of the release in a folder breaks a rule: the point, and the rule's code
-- bad_code rule            the code of a rule of a valid release: V1 to V5
-- file_rule_code rule      the code of a rule that a file as a whole breaks: G01 where it is not there, G02 where it is too long
-- load_rule_code rule      the code of a rule that a source file breaks
-- row_rule_code fault      the code of a rule that a line breaks by itself: G03 to G11
use Rattle.std.specs.Prelude.{ℕ, List, ◌++◌, codes, decimal}
use Rattle.ucd_model.specs.DerivedText.{line_end}
use Rattle.ucd_points.specs.HexText.{hex_text}
use Rattle.ucd_facts.specs.declared.form.Bad.{Bad}
use Rattle.ucd_facts.specs.declared.form.Bad.TheVariants.{V1, V2, V3, V4, V5}
use Rattle.ucd_facts.specs.declared.form.Broken.{Broken}
use Rattle.release_rows.specs.declared.load_stop.LoadRule.{LoadRule}
use Rattle.release_rows.specs.declared.load_stop.LoadRule.TheVariants.{G02, Row, K1, K4, K5}
use Rattle.source_rows.specs.declared.fault.RowFault.{RowFault}
use Rattle.source_rows.specs.declared.fault.RowFault.TheVariants.{G03, G04, G05, G06, G07, G08, G09, G10, G11}
use Rattle.run_inputs.specs.declared.refusal.FileRule.{FileRule}
use Rattle.run_inputs.specs.declared.refusal.FileRule.TheVariants as file

abbrev pub refused : List ℕ → ℕ → List ℕ → List ℕ
refused path line rule = codes "refused: " ++ path ++ codes " line " ++ decimal line ++ codes " " ++ rule ++ line_end

abbrev pub file_rule_code : FileRule → List ℕ
file_rule_code file.G01 = codes "G01"
file_rule_code file.G02 = codes "G02"

abbrev pub row_rule_code : RowFault → List ℕ
row_rule_code G03 = codes "G03"
row_rule_code G04 = codes "G04"
row_rule_code G05 = codes "G05"
row_rule_code G06 = codes "G06"
row_rule_code G07 = codes "G07"
row_rule_code G08 = codes "G08"
row_rule_code G09 = codes "G09"
row_rule_code G10 = codes "G10"
row_rule_code G11 = codes "G11"

abbrev pub bad_code : Bad → List ℕ
bad_code V1 = codes "V1"
bad_code V2 = codes "V2"
bad_code V3 = codes "V3"
bad_code V4 = codes "V4"
bad_code V5 = codes "V5"

abbrev pub refused_point : List ℕ → Broken → List ℕ
refused_point folder broken = codes "refused: " ++ folder ++ codes " point " ++ hex_text broken.point ++ codes " " ++ bad_code broken.rule ++ line_end

abbrev pub load_rule_code : LoadRule → List ℕ
load_rule_code G02 = codes "G02"
load_rule_code (Row fault) = row_rule_code fault
load_rule_code K1 = codes "K1"
load_rule_code K4 = codes "K4"
load_rule_code K5 = codes "K5"
