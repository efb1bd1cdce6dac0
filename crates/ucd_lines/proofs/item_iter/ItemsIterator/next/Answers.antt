use Rattle.std.proofs.Common.{sym, ◌∙◌}
use Rattle.ucd_lines.proofs.ItemCuts.{no_item}
use Rattle.ucd_lines.proofs.item_iter.ItemsIterator.next.Goals as goal

pub returns-then-is_empty-clause-steps : goal.returns-then-is_empty-clause-steps
returns-then-is_empty-clause-steps c =
    let none = sym c.self.view_is ∙ no_item c.self.inside.rest.now (sym c.is_empty.ensures ∙ c.if-is_empty.true) in
    (none, none)
