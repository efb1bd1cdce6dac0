use Rattle.ucd_points.specs.HexTextProofs.{hex_text_has_no_spare_digit}
use Rattle.ucd_points.proofs.laws.hex_text_has_no_spare_digit.Goals as goal

pub returns : goal.returns
returns c = hex_text_has_no_spare_digit
