-- What is said of a question that is refused.
-- set_rule_code rule    the code of a rule that the text of a question breaks: S1 to S7
-- name_rule_code rule   the code of a rule that a name breaks: S8 or S9
-- ask_rule_code rule    the code of either
-- unasked_text fault    the rule, and the place in its text, in bytes counted from 0
use Rattle.std.specs.Prelude.{ℕ, List, ◌++◌, codes, decimal}
use Rattle.unicodeset_eval.specs.declared.stop.NameRule.{NameRule}
use Rattle.unicodeset_eval.specs.declared.stop.NameRule.TheVariants.{S8, S9}
use Rattle.unicodeset_parser.specs.declared.stop.SetRule.{SetRule}
use Rattle.unicodeset_parser.specs.declared.stop.SetRule.TheVariants.{S1, S2, S3, S4, S5, S6, S7}
use Rattle.set_answers.specs.declared.ask_stop.AskFault.{AskFault}
use Rattle.set_answers.specs.declared.ask_stop.AskRule.{AskRule}
use Rattle.set_answers.specs.declared.ask_stop.AskRule.TheVariants.{Text, Name}

abbrev pub set_rule_code : SetRule → List ℕ
set_rule_code S1 = codes "S1"
set_rule_code S2 = codes "S2"
set_rule_code S3 = codes "S3"
set_rule_code S4 = codes "S4"
set_rule_code S5 = codes "S5"
set_rule_code S6 = codes "S6"
set_rule_code S7 = codes "S7"

abbrev pub name_rule_code : NameRule → List ℕ
name_rule_code S8 = codes "S8"
name_rule_code S9 = codes "S9"

abbrev pub ask_rule_code : AskRule → List ℕ
ask_rule_code (Text rule) = set_rule_code rule
ask_rule_code (Name rule) = name_rule_code rule

abbrev pub unasked_text : AskFault → List ℕ
unasked_text fault = codes "refused " ++ ask_rule_code fault.rule ++ codes " byte " ++ decimal fault.at
