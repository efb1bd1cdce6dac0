use Rattle.ucd_lines.proofs.Lines.{lines_are_unique}
use Rattle.ucd_lines.proofs.laws.lines_are_unique.Goals as goal

pub returns : goal.returns
returns c = lines_are_unique
