use Rattle.std.proofs.Common.{◌≡◌, ◌∙◌, sym, ap, length, arith}
use Rattle.std.specs.List.{before_first}
use Rattle.ucd_points.specs.Lines.{is_lf}
use Rattle.ucd_lines.proofs.ItemCuts.{first_item_last, first_item_more}
use Rattle.ucd_lines.proofs.item_iter.first_item.Goals as goal

pub returns-then-line-text : goal.returns-then-line-text
returns-then-line-text c =
    let whole : length (before_first is_lf c.args.text.now) ≡ length c.args.text.now = ap length (sym c.cut.ensures.before) ∙ omega arith in
    rw (c.cut.ensures.before, c.cut.ensures.after) (first_item_last c.args.text.now c.requires whole)

pub returns : goal.returns
returns c =
    rw (c.ended_item.ensures, c.cut.ensures.before, c.cut.ensures.after) (first_item_more c.args.text.now (λ e. omega (arith, ap length c.cut.ensures.before)))
