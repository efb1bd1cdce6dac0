use Rattle.source_rows.proofs.NameOrder.{some_names}
use Rattle.source_rows.proofs.key_names.compare_none.Goals as goal

pub returns-in-len1-up : goal.returns-in-len1-up
returns-in-len1-up c = some_names c.args.names.now c.in-len1-up.len_at_least
