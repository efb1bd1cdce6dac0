use Rattle.std.proofs.Common.{sym, ◌∙◌, arith}
use Rattle.source_rows.proofs.NameOrder.{field_goes}
use Rattle.source_rows.proofs.key_names.compare_fields.Goals as goal

pub names-preserved : goal.names-preserved
names-preserved c =
    field_goes c.names.left.now c.compare_first-order.result.1.now c.in-Some.field.now c.names.fields c.next.new.self c.names.count c.compare_first-order.result.0 c.compare_first-order.ensures (sym c.is_ne.ensures ∙ c.if-is_ne.false) c.in-Some.ensures.steps (omega arith) ∙ c.names.invariant
