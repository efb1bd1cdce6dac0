use Rattle.std.proofs.Common.{◌∙◌, arith}
use Rattle.release_rows.specs.StoredItems.{stored_at}
use Rattle.release_rows.proofs.Backward.{longer, put_front}
use Rattle.release_rows.proofs.back.put_all.Goals as goal

pub items-preserved : goal.items-preserved
items-preserved c =
    let kept = c.items.invariant in
    let put = rw kept.file at c.in_ok-put_copy.ensures.next in
    record {
      file = c.put_copy.ensures.file ∙ kept.file;
      now = c.put_copy.ensures.now ∙ kept.now;
      within = omega (arith, kept.within);
      gap = longer c.items.items.next c.put_copy.new.self.next c.args.at _ kept.gap put;
      so_far = put_front (stored_at c.args.items.now.file c.args.from.now) c.args.items.now.next c.items.items.next c.put_copy.new.self.next c.args.entries.now _ c.args.at c.items.left c.requires.within c.items-test.true kept.within kept.so_far put;
    }
