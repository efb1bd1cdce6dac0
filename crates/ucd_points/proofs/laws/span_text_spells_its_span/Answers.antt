use Rattle.ucd_points.specs.HexTextProofs.{span_text_spells_its_span}
use Rattle.ucd_points.proofs.laws.span_text_spells_its_span.Goals as goal

pub returns : goal.returns
returns c = span_text_spells_its_span
