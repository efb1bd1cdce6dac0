-- The text of a report.
-- policy_code P        the code of a policy: P01 to P20
-- break_line b         the line of a break: the code of the policy, and the code point; of a break of P17 the path of the file below
--                      the folder of a release, and the number of the line in the old file
-- report_text breaks   a line for each break, and `# total N`
use Rattle.std.specs.Prelude.{ℕ, List, ◌++◌, length, codes, decimal, flat_map}
use Rattle.ucd_model.specs.DerivedText.{line_end}
use Rattle.ucd_points.specs.HexText.{hex_text}
use Rattle.ucd_points.specs.SourceFiles.{source_path}
use Rattle.stability_policies.specs.declared.breaks.Break.{Break}
use Rattle.stability_policies.specs.declared.breaks.Break.TheVariants.{At, Alias}
use Rattle.stability_policies.specs.declared.policy.Policy.{Policy}
use Rattle.stability_policies.specs.declared.policy.Policy.TheVariants.{P01, P02, P03, P04, P05, P06, P07, P08, P09, P10, P11, P12, P13, P14, P15, P16, P17, P18, P19, P20}

abbrev pub policy_code : Policy → List ℕ
policy_code P01 = codes "P01"
policy_code P02 = codes "P02"
policy_code P03 = codes "P03"
policy_code P04 = codes "P04"
policy_code P05 = codes "P05"
policy_code P06 = codes "P06"
policy_code P07 = codes "P07"
policy_code P08 = codes "P08"
policy_code P09 = codes "P09"
policy_code P10 = codes "P10"
policy_code P11 = codes "P11"
policy_code P12 = codes "P12"
policy_code P13 = codes "P13"
policy_code P14 = codes "P14"
policy_code P15 = codes "P15"
policy_code P16 = codes "P16"
policy_code P17 = codes "P17"
policy_code P18 = codes "P18"
policy_code P19 = codes "P19"
policy_code P20 = codes "P20"

abbrev pub break_line : Break → List ℕ
break_line (At policy point) = policy_code policy ++ codes " " ++ hex_text point ++ line_end
break_line (Alias file line) = policy_code P17 ++ codes " " ++ source_path file ++ codes " " ++ decimal line ++ line_end

abbrev pub report_text : List Break → List ℕ
report_text breaks = flat_map break_line breaks ++ codes "# total " ++ decimal (length breaks) ++ line_end
