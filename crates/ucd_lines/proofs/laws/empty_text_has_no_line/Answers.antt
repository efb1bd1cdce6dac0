use Rattle.ucd_lines.proofs.ItemCuts.{empty_text}
use Rattle.ucd_lines.proofs.laws.empty_text_has_no_line.Goals as goal

pub returns : goal.returns
returns c = empty_text
