use Rattle.std.proofs.Common.{arith, take_all}
use Rattle.std.proofs.lemmas.List.Elements.{All-more}
use Rattle.part_list.specs.Reaches.{IsWithin}
use Rattle.part_list.proofs.ReachLemmas.{all_wider, wider_on}
use Rattle.part_list.proofs.reach.Reach.with_all.Goals as goal

-- the entries so far are within the wider reach too
pub entries-preserved : goal.entries-preserved
entries-preserved g c = record {
  entries = All-more (IsWithin c.with-reach.result) c.args.entries.now c.entries.entry-index c.entry-item.result c.entries-test.true
      (all_wider _ _ c.with-reach.ensures.wider _ c.entries.invariant.entries) (rw (← c.entry-item.is) c.with-reach.ensures.entry);
  wider = wider_on _ _ _ c.entries.invariant.wider c.with-reach.ensures.wider;
}

pub returns-clause-entries : goal.returns-clause-entries
returns-clause-entries g c = rw (← take_all c.entries.entry-index c.args.entries.now (omega (arith, c.entries-test.false))) c.entries.invariant.entries
