use Rattle.std.proofs.Common.{arith, take_all}
use Rattle.part_list.proofs.cover.Cover.put_all.Goals as goal

pub returns-clause-put : goal.returns-clause-put
returns-clause-put g c = rw (← take_all c.entries.entry-index c.args.entries.now (omega (arith, c.entries-test.false))) c.entries.invariant.put
