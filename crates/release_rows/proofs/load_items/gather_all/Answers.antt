use Rattle.std.proofs.Common.{sym, ap, ◌∙◌}
use Rattle.ucd_points.specs.Lines.{joined}
use Rattle.release_rows.proofs.Gathered.{are_loaded}
use Rattle.release_rows.proofs.load_items.gather_all.Goals as goal

pub returns-clause-ordered : goal.returns-clause-ordered
returns-clause-ordered c = c.pieces.invariant.rows.ordered

-- once no piece is left, the items that were gathered are those of the file, if their rows are apart
pub returns-clause-loaded : goal.returns-clause-loaded
returns-clause-loaded c = λ apart.
    let inv = c.pieces.invariant in
    let items = c.into_items-items.ensures in
    let lines = ap joined (sym c.items-lines.ensures.lines) ∙ c.items-lines.ensures.joined in
    are_loaded c.args.file c.args.bytes.now _ c.into_items-items.result c.pieces.rows.items _ c.requires.other
    (rw (inv.file, inv.text) at items.items) items.same (rw (inv.file, inv.text) at items.each) items.few
    (rw (inv.file, inv.text) at inv.rows) apart (rw (inv.file, inv.text) at inv.whole) c.in_default.ensures.piece lines
