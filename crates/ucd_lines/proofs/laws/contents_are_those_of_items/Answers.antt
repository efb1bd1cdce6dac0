use Rattle.ucd_lines.proofs.Lines.{contents_are_items}
use Rattle.ucd_lines.proofs.laws.contents_are_those_of_items.Goals as goal

pub returns : goal.returns
returns c = contents_are_items
