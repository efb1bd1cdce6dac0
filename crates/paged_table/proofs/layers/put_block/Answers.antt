use Rattle.std.proofs.Common.{arith}
use Rattle.paged_table.proofs.Apart.{IsApart-put, values-put_now, values-put_next}
use Rattle.paged_table.proofs.layers.put_block.Goals as goal

pub returns-clause-apart : goal.returns-clause-apart
returns-clause-apart c = IsApart-put c.args.pool.now c.put_part.new.pool c.args.now.now c.args.next.now c.args.block c.put_part.result c.args.lo c.args.hi c.args.value c.requires.apart c.requires.block c.put_part.ensures.puts

pub returns-clause-now : goal.returns-clause-now
returns-clause-now c = values-put_now c.args.pool.now c.put_part.new.pool c.args.now.now c.args.next.now c.args.block c.put_part.result c.args.lo c.args.hi c.args.value c.requires.apart c.requires.block c.put_part.ensures.puts

pub returns-clause-next : goal.returns-clause-next
returns-clause-next c = values-put_next c.args.pool.now c.put_part.new.pool c.args.now.now c.args.next.now c.args.block c.put_part.result c.args.lo c.args.hi c.args.value c.requires.apart c.requires.block c.put_part.ensures.puts (omega arith)
