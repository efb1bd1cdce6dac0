use Rattle.script_pieces.proofs.DecimalLemmas.{by_value}
use Rattle.script_pieces.proofs.decimal.decimal_u32.Goals as goal

pub returns-clause-number : goal.returns-clause-number
returns-clause-number c = by_value c.args.word.now c.written_number.result c.written_number.ensures.small c.written_number.ensures.written
