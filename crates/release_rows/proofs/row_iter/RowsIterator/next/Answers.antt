use Rattle.std.proofs.Common.{rules, length, sym, ap, ◌∙◌}
use Rattle.ucd_points.specs.MissingLines.{is_trivia}
use Rattle.release_rows.proofs.Walks.{walks_on, row_first, rows_behind}
use Rattle.release_rows.proofs.row_iter.RowsIterator.next.Goals as goal

pub invariant_of-self : goal.invariant_of-self
invariant_of-self c = rw c.from.ensures (walks_on _ _ c.items.self-inside.items c.in-Some.entry c.next.new.self c.items.self-inside.line c.in-Some.ensures.steps c.items.invariant.walk)

-- behind trivia stand the same rows
pub items-preserved : goal.items-preserved
items-preserved c = rw c.from.ensures
    (record {
      rows = rows_behind c.items.self-inside.file c.items.self-inside.text.now c.items.self-inside.items c.in-Some.entry c.next.new.self c.items.self-inside.line _ c.in-Some.ensures.steps
          (ap (is_trivia c.items.self-inside.file) (sym c.content_in-content.ensures) ∙ sym c.if-not-is_trivia.ensures) c.items.invariant.rows;
      walk = walks_on _ _ c.items.self-inside.items c.in-Some.entry c.next.new.self c.items.self-inside.line c.in-Some.ensures.steps c.items.invariant.walk;
    })

pub returns-then-not-is_trivia-clause-steps : goal.returns-then-not-is_trivia-clause-steps
returns-then-not-is_trivia-clause-steps c =
    let row = ap (is_trivia c.items.self-inside.file) (sym c.content_in-content.ensures) ∙ sym c.if-not-is_trivia.ensures in
    rw (c.from.ensures, c.new.ensures, c.content_in-content.ensures)
    (row_first c.items.self-inside.file c.items.self-inside.text.now c.items.self-inside.items c.in-Some.entry c.next.new.self c.items.self-inside.line c.args.self.now
    c.in-Some.ensures.steps c.items.invariant.walk.each row c.items.invariant.rows)

pub returns-then-not-is_trivia-clause-goes : goal.returns-then-not-is_trivia-clause-goes
returns-then-not-is_trivia-clause-goes c =
    let is = returns-then-not-is_trivia-clause-steps c in
    let size = ap length is in
    search rules
