use Rattle.std.proofs.Common.{subst}
use Rattle.release_rows.specs.Chains.{IsChain}
use Rattle.release_rows.proofs.Chains.{sorted_apart}
use Rattle.release_rows.proofs.keyed_extent.are_apart.Goals as goal

pub returns : goal.returns
returns c = λ apart. sorted_apart c.args.rows.items c.sort.new.self.items c.requires c.sort.ensures.permutation (subst IsChain c.deref.ensures.value (c.each_ends_before_next.ensures apart))
