use Rattle.ucd_points.specs.HexTextProofs.{hex_text_has_four_to_six_digits}
use Rattle.ucd_points.proofs.laws.hex_text_has_four_to_six_digits.Goals as goal

pub returns : goal.returns
returns c = hex_text_has_four_to_six_digits
