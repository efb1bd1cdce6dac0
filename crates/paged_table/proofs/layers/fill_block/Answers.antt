use Rattle.paged_table.proofs.Apart.{IsApart-put}
use Rattle.paged_table.proofs.layers.fill_block.Goals as goal

pub returns-clause-apart : goal.returns-clause-apart
returns-clause-apart c = IsApart-put c.args.pool.now c.put_whole.new.pool c.args.now.now c.args.next.now c.args.block c.put_whole.result 0 255 c.args.value c.requires.apart c.requires.block c.put_whole.ensures.puts
