use Rattle.ucd_points.specs.HexTextProofs.{hex_text_is_upper_case}
use Rattle.ucd_points.proofs.laws.hex_text_is_upper_case.Goals as goal

pub returns : goal.returns
returns c = hex_text_is_upper_case
