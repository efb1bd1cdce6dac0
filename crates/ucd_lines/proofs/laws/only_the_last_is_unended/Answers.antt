use Rattle.ucd_lines.proofs.Lines.{is_line}
use Rattle.ucd_lines.proofs.laws.only_the_last_is_unended.Goals as goal

pub returns : goal.returns
returns c = λ bytes front item rest has. (is_line bytes front item rest has).last
