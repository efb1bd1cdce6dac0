use Rattle.norm_conformance.proofs.LinesSaid.{lines_are_said}
use Rattle.norm_conformance.proofs.laws.lines_are_read.Goals as goal

pub returns : goal.returns
returns c = lines_are_said
