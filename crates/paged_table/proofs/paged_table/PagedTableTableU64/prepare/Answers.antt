use Rattle.std.proofs.Common.{◌≡◌, ◌<◌, length, drop, subst, ap, ◌∙◌, arith}
use Rattle.std.proofs.lemmas.Result.{on_ok_weaker, on_err_weaker}
use Rattle.range_table.specs.Values.{with_span}
use Rattle.paged_table.specs.Blocks.{values}
use Rattle.paged_table.specs.Layers.{IsApart, Covers}
use Rattle.paged_table.specs.Paged.{Paged, blocks_next, values_next}
use Rattle.paged_table.proofs.OwnBlocks.{own_next}
use Rattle.paged_table.proofs.Steps.{refill}
use Rattle.paged_table.proofs.paged_table.PagedTableTableU64.prepare.Goals as goal

pub returns-clause-ok : goal.returns-clause-ok
returns-clause-ok c =
    let t = c.self.inside in
    let mid = c.make_own_blocks.new.own in
    let next = c.prepare_span.new.next in
    let span = c.args.span in
    let own : mid.items ≡ blocks_next t.committed.items t.prepared.items = c.in_ok-make_own_blocks.ensures.own ∙ ap (λ xs. blocks_next xs t.prepared.items) c.deref.ensures.value in
    let count : length mid.items ≡ 4352 = ap length own ∙ c.self.invariant.0.count_next in
    let size = c.prepare_span.ensures.apart.count_next in
    let len : length next ≡ mid.len = omega (arith, count, size) in
    let same = refill mid.len next (drop (length next) mid.items) len in
    let some : 0 < length next = omega (arith, size) in
    let lone = own_next t.committed.items next some in
    on_ok_weaker c.prepare_span.result
    (λ done d lt.
    ap (λ xs. values c.prepare_span.new.pool (blocks_next t.committed.items xs) d) same
    ∙ ap (λ xs. values c.prepare_span.new.pool xs d) lone
    ∙ done d
    ∙ ap (λ xs. with_span (values t.pool xs) span.lo span.hi c.args.value d) (c.deref_mut.ensures.value ∙ own)
    ∙ ap (λ (t : Paged). with_span (values_next t) span.lo span.hi c.args.value d) c.self.view_is)
    c.prepare_span.ensures.ok

pub returns-clause-err : goal.returns-clause-err
returns-clause-err c =
    let t = c.self.inside in
    let mid = c.make_own_blocks.new.own in
    let next = c.prepare_span.new.next in
    let span = c.args.span in
    let own : mid.items ≡ blocks_next t.committed.items t.prepared.items = c.in_ok-make_own_blocks.ensures.own ∙ ap (λ xs. blocks_next xs t.prepared.items) c.deref.ensures.value in
    let count : length mid.items ≡ 4352 = ap length own ∙ c.self.invariant.0.count_next in
    let size = c.prepare_span.ensures.apart.count_next in
    let len : length next ≡ mid.len = omega (arith, count, size) in
    let same = refill mid.len next (drop (length next) mid.items) len in
    let some : 0 < length next = omega (arith, size) in
    let lone = own_next t.committed.items next some in
    on_err_weaker c.prepare_span.result
    (λ stays d lt.
    ap (λ xs. values c.prepare_span.new.pool (blocks_next t.committed.items xs) d) same
    ∙ ap (λ xs. values c.prepare_span.new.pool xs d) lone
    ∙ stays d
    ∙ ap (λ xs. values t.pool xs d) (c.deref_mut.ensures.value ∙ own)
    ∙ ap (λ (t : Paged). values_next t d) c.self.view_is)
    c.prepare_span.ensures.err

pub invariant_of-self-2 : goal.invariant_of-self-2
invariant_of-self-2 c =
    let t = c.self.inside in
    let mid = c.make_own_blocks.new.own in
    let next = c.prepare_span.new.next in
    let span = c.args.span in
    let own : mid.items ≡ blocks_next t.committed.items t.prepared.items = c.in_ok-make_own_blocks.ensures.own ∙ ap (λ xs. blocks_next xs t.prepared.items) c.deref.ensures.value in
    let count : length mid.items ≡ 4352 = ap length own ∙ c.self.invariant.0.count_next in
    let size = c.prepare_span.ensures.apart.count_next in
    let len : length next ≡ mid.len = omega (arith, count, size) in
    let same = refill mid.len next (drop (length next) mid.items) len in
    let some : 0 < length next = omega (arith, size) in
    let lone = own_next t.committed.items next some in
    let from = c.deref-2.ensures.value in
    rw (same, lone)
    (subst (λ xs. IsApart c.prepare_span.new.pool xs next) from c.prepare_span.ensures.apart, subst (λ xs. Covers c.prepare_span.new.touched.items xs next) from c.prepare_span.ensures.covers)
