use Rattle.std.proofs.Common.{sym, ◌∙◌}
use Rattle.ucd_lines.specs.Items.{item_of}
use Rattle.script_pieces.proofs.CutLemmas.{reached_next}
use Rattle.script_pieces.proofs.pieces.first_piece.Goals as goal

pub lines-preserved : goal.lines-preserved
lines-preserved c =
    reached_next c.args.text.now c.args.first_line c.lines.rest.now c.lines.line c.lines.invariant (item_of c.in-Some.item) c.in-Some.behind.now
    c.in-Some.ensures.lines c.in-Some.ensures.bytes c.in-Some.ensures.some (sym c.is_mark.ensures ∙ c.if-is_mark.false)
