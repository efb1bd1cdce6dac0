use Rattle.ucd_points.specs.HexTextProofs.{hex_text_spells_its_point}
use Rattle.ucd_lines.proofs.laws.hex_reads_put_hex.Goals as goal

pub returns : goal.returns
returns c = hex_text_spells_its_point
