use Rattle.ucd_laws.specs.RowLawProofs.{kinds_are_mapped}
use Rattle.ucd_laws.proofs.row_laws.kinds_are_mapped.Goals as goal

pub returns : goal.returns
returns c = kinds_are_mapped
