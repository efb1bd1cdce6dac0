use Rattle.std.proofs.Common.{length, ap, arith}
use Rattle.part_list.proofs.BeforeLemmas.{before_left, before_found}
use Rattle.part_list.proofs.search.spot_before.Goals as goal

pub returns-then-len-gt0 : goal.returns-then-len-gt0
returns-then-len-gt0 g c =
    before_found c.args.parts.now c.args.spot c.parts.left c.index-parts-slot.result c.next-len.result.now c.next-len.ensures c.parts-test.true c.parts.invariant.within c.index-parts-slot.is c.if-len-gt0.true c.if-spot-gt0.false c.parts.invariant.same

pub parts-preserved : goal.parts-preserved
parts-preserved g c =
    let step = before_left c.args.parts.now c.parts.left c.index-parts-slot.result c.parts-test.true c.parts.invariant.within c.index-parts-slot.is in
    let size = ap length c.next-len.ensures in
    let none = c.if-len-gt0.false in
    let within = c.parts.invariant.within in
    let same = c.parts.invariant.same in
    record { within = omega arith; same = omega arith }
