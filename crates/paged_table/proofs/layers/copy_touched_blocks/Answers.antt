use Rattle.std.proofs.Common.{◌<◌, ◌∙◌, length, get_or, arith}
use Rattle.paged_table.proofs.Apart.{IsApart-settle}
use Rattle.paged_table.proofs.Touched.{settled-next}
use Rattle.paged_table.proofs.layers.copy_touched_blocks.Goals as goal

pub loop-block-preserved : goal.loop-block-preserved
loop-block-preserved c =
    let before = c.loop-block.invariant in
    let i = c.loop-block.block-index in
    let at = get_or c.args.touched.now i 0 in
    let lt : i < length c.args.touched.now = omega arith in
    let inside = c.requires.covers.blocks i lt in
    record {
      apart = IsApart-settle c.loop-block.pool c.give_back_own_page.new.pool c.args.from.now c.loop-block.into at before.apart inside c.give_back_own_page.ensures.now c.give_back_own_page.ensures.others c.give_back_own_page.ensures.gone c.give_back_own_page.ensures.words;
      words = λ p a. c.give_back_own_page.ensures.words p a ∙ before.words p a;
      same = settled-next c.args.touched.now i c.args.from.now c.loop-block.into lt (let n = before.apart.count_next in omega arith) before.same;
    }
