use Rattle.std.proofs.Common.{arith}
use Rattle.part_list.proofs.BeforeLemmas.{place_behind}
use Rattle.part_list.proofs.search.spot_at.Goals as goal

pub parts-preserved : goal.parts-preserved
parts-preserved g c = record {
  within = omega (arith, c.parts-test.true);
  stands = place_behind c.args.parts.now c.parts.slot c.parts.at c.args.place c.index-parts-slot.result c.next-len.result.now c.next-len.ensures c.parts-test.true c.index-parts-slot.is (omega (arith, c.if-at-len.false)) c.parts.invariant.stands;
}
