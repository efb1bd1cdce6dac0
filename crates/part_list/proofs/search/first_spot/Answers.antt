use Rattle.std.proofs.Common.{arith}
use Rattle.part_list.specs.PartValues.{parts_next}
use Rattle.part_list.proofs.FindLemmas.{FirstAt-found, none_of-part}
use Rattle.part_list.proofs.GuideLemmas.{none_of-all, none_of-ruled}
use Rattle.part_list.proofs.search.first_spot.Goals as goal

-- no part before this one has such an entry
pub returns-in-Some : goal.returns-in-Some
returns-in-Some g c =
    FirstAt-found (g.S.Seek.passing c.args.seek.now) c.args.parts.now c.parts.slot c.in-Some.at c.index-parts-slot.result c.parts-test.true c.index-parts-slot.is
    c.parts.invariant c.in-Some.ensures

pub parts-init : goal.parts-init
parts-init g c = none_of-ruled (g.S.Seek.passing c.args.seek.now) (parts_next c.args.parts.now) c.args.from c.next_candidate_slot-slot.result c.next_candidate_slot-slot.ensures.from c.requires.before c.next_candidate_slot-slot.ensures.ruled

pub parts-preserved : goal.parts-preserved
parts-preserved g c =
    let p = g.S.Seek.passing c.args.seek.now in
    none_of-ruled p (parts_next c.args.parts.now) _ _ c.next_candidate_slot-slot-in-parts.ensures.from
    (none_of-part p c.args.parts.now c.parts.slot c.index-parts-slot.result c.parts-test.true c.index-parts-slot.is c.parts.invariant c.in_default.ensures)
    c.next_candidate_slot-slot-in-parts.ensures.ruled

pub returns : goal.returns
returns g c = none_of-all (g.S.Seek.passing c.args.seek.now) c.args.parts.now c.parts.slot (omega (arith, c.parts-test.false)) c.parts.invariant
