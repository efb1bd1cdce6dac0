use Rattle.std.proofs.Common.{arith}
use Rattle.std.proofs.lemmas.List.{length-map}
use Rattle.part_list.specs.PartValues.{parts_next}
use Rattle.part_list.specs.Reaches.{IsWithin}
use Rattle.part_list.proofs.GuideLemmas.{all_parts, within_more}
use Rattle.part_list.proofs.ReachLemmas.{all_wider}
use Rattle.part_list.proofs.guides.joined_reach.Goals as goal

pub parts-preserved : goal.parts-preserved
parts-preserved g c =
    within_more c.parts.reach c.join-reach.result c.args.parts.now c.parts.part-index c.part-item.result c.join-reach.ensures.wider c.parts-test.true c.part-item.is
    (all_wider _ _ c.join-reach.ensures.other _ c.reach.ensures) c.parts.invariant

pub returns : goal.returns
returns g c =
    let long = length-map c.args.parts.now (λ part. part.next) in
    let done = c.parts-test.false in
    all_parts (IsWithin c.parts.reach) (parts_next c.args.parts.now) (λ k lt. c.parts.invariant k (omega arith))
