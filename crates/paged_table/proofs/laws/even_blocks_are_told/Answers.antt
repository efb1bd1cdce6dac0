use Rattle.paged_table.proofs.Counts.{even_block-Decides}
use Rattle.paged_table.proofs.laws.even_blocks_are_told.Goals as goal

pub returns : goal.returns
returns c = even_block-Decides
