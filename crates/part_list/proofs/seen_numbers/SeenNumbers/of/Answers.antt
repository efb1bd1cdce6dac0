use Rattle.std.proofs.Common.{arith}
use Rattle.part_list.specs.SeenNumbers.{IsKnown}
use Rattle.part_list.proofs.GatherLemmas.{shown_more, shown_next, shown_now}
use Rattle.part_list.proofs.seen_numbers.SeenNumbers.of.Goals as goal

pub parts-preserved : goal.parts-preserved
parts-preserved g c =
    shown_more (IsKnown c.parts.tags) (IsKnown c.put_part.new.self) c.args.parts.now c.parts.part-index c.part-item.result (λ entry. c.put_part.ensures.grows entry.tag) c.parts-test.true c.part-item.is
    c.parts.invariant c.put_part.ensures.now c.put_part.ensures.next

pub returns-clause-now : goal.returns-clause-now
returns-clause-now g c = shown_now (IsKnown c.parts.tags) c.args.parts.now c.parts.part-index (omega (arith, c.parts-test.false)) c.parts.invariant

pub returns-clause-next : goal.returns-clause-next
returns-clause-next g c = shown_next (IsKnown c.parts.tags) c.args.parts.now c.parts.part-index (omega (arith, c.parts-test.false)) c.parts.invariant
