use Rattle.release_rows.specs.ValuesApartProofs.{values_apart}
use Rattle.release_rows.proofs.laws.values_are_apart.Goals as goal

pub returns : goal.returns
returns c = values_apart
