use Rattle.std.proofs.Common.{◌∙◌, rules, length, drop, ap, sym, arith, filter}
use Rattle.part_list.specs.Parts.{flat}
use Rattle.part_list.specs.PartValues.{PartValue, parts_next}
use Rattle.part_list.proofs.GuideLemmas.{none_left, part_begun}
use Rattle.part_list.proofs.PassingLemmas.{next_left}
use Rattle.part_list.proofs.passing.PassingIterator.next.Goals as goal

pub returns-in-Some-clause-steps : goal.returns-in-Some-clause-steps
returns-in-Some-clause-steps g c =
    next_left (g.S.Seek.passing c.parts.self-inside.seek.now) c.parts.self-inside.entries.now (flat (drop c.parts.self-inside.slot (parts_next c.parts.self-inside.parts.now))) c.entries_after-self-inside.result.now c.args.self.now c.in-Some.at c.index-self-at.result
    c.parts.invariant.left c.in-Some.ensures.0 c.in-Some.ensures.1 c.entries_after-self-inside.ensures

pub returns-in-Some-clause-goes : goal.returns-in-Some-clause-goes
returns-in-Some-clause-goes g c =
    let is = returns-in-Some-clause-steps g c in
    let size = ap length is in
    search rules

pub returns-then-slot-self-clause-steps : goal.returns-then-slot-self-clause-steps
returns-then-slot-self-clause-steps g c =
    let none = none_left (g.S.Seek.passing c.parts.self-inside.seek.now) c.parts.self-inside.entries.now c.parts.self-inside.parts.now c.parts.self-inside.slot c.next_candidate_slot-slot.result c.args.self.now
    c.parts.invariant.left c.in_default.ensures c.next_candidate_slot-slot.ensures.from c.next_candidate_slot-slot.ensures.ruled (omega (arith, c.if-slot-self.true)) in
    (none, c.parts.invariant.left ∙ none)

pub parts-preserved : goal.parts-preserved
parts-preserved g c = record {
  left = part_begun (g.S.Seek.passing c.parts.self-inside.seek.now) c.parts.self-inside.entries.now c.parts.self-inside.parts.now c.parts.self-inside.slot c.next_candidate_slot-slot.result c.index-self-slot.result c.candidates-self-inside.result.now c.args.self.now
      c.parts.invariant.left c.in_default.ensures c.next_candidate_slot-slot.ensures.from c.next_candidate_slot-slot.ensures.ruled (omega (arith, c.if-slot-self.false)) c.index-self-slot.is
      (c.candidates-self-inside.ensures ∙ ap (λ (part : PartValue _). filter (g.S.Seek.passing c.parts.self-inside.seek.now) part.next) (sym c.index-self-slot.is));
  covers = c.parts.invariant.covers;
}
