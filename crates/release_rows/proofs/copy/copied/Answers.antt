use Rattle.std.proofs.Common.{arith}
use Rattle.release_rows.proofs.Backward.{copied_more, grew_more}
use Rattle.release_rows.proofs.copy.copied.Goals as goal

-- one more is copied
pub entries-preserved : goal.entries-preserved
entries-preserved c = record {
  within = omega (arith, c.entries-test.true);
  grew = grew_more c.args.into.now c.entries.into c.copy_entry.new.into c.entries.invariant.grew c.in_ok-copy.ensures.grows;
  are = copied_more c.args.file c.args.from.now c.entries.into c.copy_entry.new.into c.args.entries.now c.entries.copies c.push.new.self _ c.in_ok-copy.copy c.entries.done c.in_ok-copy.ensures.grows c.entries.invariant.are c.entries-test.true c.in_ok-copy.ensures.stored c.in_ok-copy.ensures.item c.in_ok-push.ensures.ok;
}
