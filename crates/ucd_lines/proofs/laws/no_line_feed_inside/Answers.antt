use Rattle.ucd_lines.proofs.Lines.{is_line}
use Rattle.ucd_lines.proofs.laws.no_line_feed_inside.Goals as goal

pub returns : goal.returns
returns c = λ bytes front item rest has. (is_line bytes front item rest has).no_line_feed
