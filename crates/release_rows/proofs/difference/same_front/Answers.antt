use Rattle.std.proofs.Common.{arith}
use Rattle.release_rows.specs.StoredItems.{stored_at}
use Rattle.release_rows.proofs.Leading.{same_front_more}
use Rattle.release_rows.proofs.difference.same_front.Goals as goal

pub items-preserved : goal.items-preserved
items-preserved c = record {
  now = omega (arith, c.items-test.true);
  next = omega (arith, c.if-count-next.true);
  same = λ file text. same_front_more (stored_at file text) c.args.now.now c.args.next.now c.items.count _ _ c.items-test.true c.if-count-next.true (c.is_same.ensures c.if-not-is_same.false file text) (c.items.invariant.same file text);
}
