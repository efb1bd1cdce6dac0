-- The lines of a log that tell of groups.
-- log_line line said        a line of the log: the number of the command's line, a space, what is said of it, and LF
-- accepted_line line count  of a group that was accepted: how many code points have another record
-- key_rule_code rule        the code of a rule that an operation breaks: K1, K2 or K4
-- refusal_text why          of a group that was refused: the rule that an operation breaks, and the number of that operation,
--                           counted from 1; or the rule of a valid release, and the code point that breaks it
-- refused_line line why     the line that says it
use Rattle.std.specs.Prelude.{ℕ, List, ◌++◌, codes, decimal}
use Rattle.ucd_model.specs.DerivedText.{line_end}
use Rattle.ucd_points.specs.HexText.{hex_text}
use Rattle.release_rows.specs.declared.key_rule.KeyRule.{KeyRule}
use Rattle.release_rows.specs.declared.key_rule.KeyRule.TheVariants.{K1, K2, K4}
use Rattle.edit_session.specs.declared.apply_stop.Refused.{Refused}
use Rattle.edit_session.specs.declared.apply_stop.Refused.TheVariants.{Key, Valid}
use Rattle.run_inputs.specs.RefusalLines.{bad_code}

abbrev pub log_line : ℕ → List ℕ → List ℕ
log_line line said = decimal line ++ codes " " ++ said ++ line_end

abbrev pub accepted_line : ℕ → ℕ → List ℕ
accepted_line line count = log_line line (codes "accepted " ++ decimal count)

abbrev pub key_rule_code : KeyRule → List ℕ
key_rule_code K1 = codes "K1"
key_rule_code K2 = codes "K2"
key_rule_code K4 = codes "K4"

abbrev pub refusal_text : Refused → List ℕ
refusal_text (Key rule op) = codes "refused " ++ key_rule_code rule ++ codes " operation " ++ decimal op
refusal_text (Valid rule point) = codes "refused " ++ bad_code rule ++ codes " point " ++ hex_text point

abbrev pub refused_line : ℕ → Refused → List ℕ
refused_line line why = log_line line (refusal_text why)
