use Rattle.std.proofs.Common.{◌≡◌, ◌+◌, ◌*◌, subst, arith}
use Rattle.part_list.specs.Guides.{RulesOut, width}
use Rattle.part_list.specs.PartValues.{parts_next}
use Rattle.part_list.proofs.GuideLemmas.{ruled_more}
use Rattle.part_list.proofs.guides.next_candidate_slot.Goals as goal

-- one more block is ruled out
pub blocks-2-preserved : goal.blocks-2-preserved
blocks-2-preserved g c =
    let p = g.S.Seek.passing c.args.seek.now in
    let xs = parts_next c.args.parts.now in
    let so_far = c.blocks-2.invariant.from in
    let here = c.blocks-2.invariant.block in
    let next = c.in-Some.ensures in
    let done : c.blocks-2.block * width + width ≡ (c.blocks-2.block + 1) * width = omega arith in
    record {
      from = omega arith;
      block = omega arith;
      ruled = subst (RulesOut p xs c.args.from) done
          (ruled_more p c.args.guides.now xs c.args.from c.blocks-2.block _ c.requires c.if-block-guides.true (c.skips.ensures c.if-skips.true) c.blocks-2.invariant.ruled);
    }
