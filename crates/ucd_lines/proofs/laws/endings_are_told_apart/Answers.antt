use Rattle.ucd_lines.proofs.Lines.{is_line}
use Rattle.ucd_lines.proofs.laws.endings_are_told_apart.Goals as goal

pub returns : goal.returns
returns c = λ bytes front item rest has. (is_line bytes front item rest has).no_return
