use Rattle.ucd_points.specs.HexTextProofs.{hex_text_spells_its_number}
use Rattle.ucd_points.proofs.laws.hex_text_spells_its_number.Goals as goal

pub returns : goal.returns
returns c = hex_text_spells_its_number
