use Rattle.std.proofs.Common.{◌+◌, ◌*◌, ◌/◌, ◌%◌, ◌&&◌, cond, leb, ltb, ap, refl, ◌∙◌, arith}
use Rattle.range_table.specs.Values.{with_span}
use Rattle.paged_table.specs.Blocks.{values}
use Rattle.paged_table.proofs.Steps.{span-three}
use Rattle.paged_table.proofs.span.put_span.Goals as goal

pub returns-clause-next : goal.returns-clause-next
returns-clause-next c = λ d.
    let lo = c.first-lo.result in
    let hi = c.last-hi.result in
    let v = c.args.value in
    let before = values c.args.pool.now c.args.next.now in
    c.put_block-3.ensures.next d
    ∙ ap (λ w. cond (leb (hi / 256 * 256 + 0) d && leb d (hi / 256 * 256 + hi % 256)) v w)
    (c.fill_blocks.ensures.next d
    ∙ ap (λ w. cond (leb ((lo / 256 + 1) * 256) d && ltb d (hi / 256 * 256)) v w) (c.put_block-2.ensures.next d))
    ∙ span-three lo hi (lo / 256) (hi / 256) v (before d) d refl refl (omega arith)
    ∙ ap (λ z. with_span before z hi v d) c.first-lo.ensures.value
    ∙ ap (λ z. with_span before c.args.span.lo z v d) c.last-hi.ensures.value
