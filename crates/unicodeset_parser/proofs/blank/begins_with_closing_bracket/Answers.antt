use Rattle.std.proofs.Common.{sym, ap, ◌∙◌}
use Rattle.unicodeset_parser.specs.Blanks.{closes}
use Rattle.unicodeset_parser.proofs.White.{closes_step}
use Rattle.unicodeset_parser.proofs.blank.begins_with_closing_bracket.Goals as goal

pub blanks-preserved : goal.blanks-preserved
blanks-preserved c = (
  sym c.first_blank_size-blanks-in-blanks.ensures.size,
  c.first_blank_size-blanks-in-blanks.ensures.within,
  c.blanks.invariant.2 ∙ closes_step c.blanks.blanks c.blanks.rest.now c.blanks.invariant.0 c.blanks-test.true ∙ ap (closes 0) (sym c.bytes_behind-rest.ensures),
)
