use Rattle.std.proofs.Common.{arith, sym, ◌∙◌}
use Rattle.ucd_lines.proofs.FieldCuts.{last_field, field_before}
use Rattle.ucd_lines.proofs.field_iter.first_field.Goals as goal

pub returns-then-at-text : goal.returns-then-at-text
returns-then-at-text c = rw c.trim.ensures (last_field c.args.text.now (sym c.first_at-at.ensures.place ∙ c.if-at-text.true))

pub returns : goal.returns
returns c = rw c.trim-2.ensures (field_before c.args.text.now c.first_at-at.result (sym c.first_at-at.ensures.place) (omega arith))
