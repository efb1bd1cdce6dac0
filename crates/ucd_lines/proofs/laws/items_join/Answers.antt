use Rattle.ucd_lines.proofs.Lines.{items_join}
use Rattle.ucd_lines.proofs.laws.items_join.Goals as goal

pub returns : goal.returns
returns c = items_join
