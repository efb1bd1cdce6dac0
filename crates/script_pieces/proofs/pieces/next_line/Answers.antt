use Rattle.std.proofs.Common.{ap, sym, ◌∙◌}
use Rattle.ucd_points.specs.Lines.{joined}
use Rattle.ucd_lines.specs.Items.{item_of}
use Rattle.script_pieces.proofs.CutLemmas.{next_lines, next_shorter}
use Rattle.script_pieces.proofs.pieces.next_line.Goals as goal

pub returns-clause-lines : goal.returns-clause-lines
returns-clause-lines c =
    next_lines c.no_line_feed_inside.ensures c.only_the_last_is_unended.ensures c.endings_are_told_apart.ensures c.args.text.now (item_of c.in_ok-item.item) _ c.item_len.result
    (sym c.items-lines.ensures.lines ∙ c.in_ok-item.ensures.steps) (ap joined (sym c.items-lines.ensures.lines) ∙ c.items-lines.ensures.joined) c.item_len.ensures c.lines_are_unique.ensures

pub returns-clause-some : goal.returns-clause-some
returns-clause-some c =
    next_shorter c.no_line_feed_inside.ensures c.only_the_last_is_unended.ensures c.endings_are_told_apart.ensures c.args.text.now (item_of c.in_ok-item.item) _ c.item_len.result
    (sym c.items-lines.ensures.lines ∙ c.in_ok-item.ensures.steps) (ap joined (sym c.items-lines.ensures.lines) ∙ c.items-lines.ensures.joined) c.item_len.ensures
