use Rattle.std.proofs.Common.{arith}
use Rattle.source_rows.proofs.FieldCuts.{count_is}
use Rattle.source_rows.proofs.fields.field_count.Goals as goal

pub returns : goal.returns
returns c = omega (arith, count_is c.args.text.now)
