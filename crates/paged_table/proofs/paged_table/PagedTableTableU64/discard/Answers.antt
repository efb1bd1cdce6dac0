use Rattle.std.proofs.Common.{◌≡◌, ◌<◌, length, drop, subst, ap, ◌∙◌, arith}
use Rattle.paged_table.specs.Blocks.{block_at, values}
use Rattle.paged_table.specs.Layers.{IsApart, Covers}
use Rattle.paged_table.specs.Paged.{Paged, blocks_next, values_now}
use Rattle.paged_table.proofs.OwnBlocks.{own_next, settled_values}
use Rattle.paged_table.proofs.Steps.{refill}
use Rattle.paged_table.proofs.paged_table.PagedTableTableU64.discard.Goals as goal

pub copy_touched_blocks-requires-clause-apart : goal.copy_touched_blocks-requires-clause-apart
copy_touched_blocks-requires-clause-apart c =
    let t = c.self.inside in
    let some : 0 < length t.prepared.items = grind (arith, c.if-is_empty.false, c.is_empty.ensures) in
    let own = own_next t.committed.items t.prepared.items some in
    rw (c.deref.ensures.value, c.deref_mut.ensures.value) (subst (λ ys. IsApart t.pool t.committed.items ys) own c.self.invariant.0)

pub invariant_of-self : goal.invariant_of-self
invariant_of-self c =
    let t = c.self.inside in
    let into = c.copy_touched_blocks.new.into in
    let len : length into ≡ t.prepared.len = omega arith in
    let same = refill t.prepared.len into (drop (length into) t.prepared.items) len in
    let from = c.deref.ensures.value in
    let apart = subst (λ xs. IsApart c.copy_touched_blocks.new.pool xs into) from c.copy_touched_blocks.ensures.apart in
    let some : 0 < length into = let n = apart.count_next in omega arith in
    let own = own_next t.committed.items into some in
    let covers : Covers c.clear.new.self.items t.committed.items into =
    rw c.clear.ensures.items
    (record {
      blocks = λ i lt. absurd (omega arith);
      others = λ b none. c.copy_touched_blocks.ensures.same b ∙ ap (λ xs. block_at xs b) from;
    })
    in
    rw (same, own) (apart, covers)

pub returns-clause-discarded : goal.returns-clause-discarded
returns-clause-discarded c = λ d lt.
    let t = c.self.inside in
    let into = c.copy_touched_blocks.new.into in
    let len : length into ≡ t.prepared.len = omega arith in
    let same = refill t.prepared.len into (drop (length into) t.prepared.items) len in
    let n = c.copy_touched_blocks.ensures.apart.count_next in
    let some : 0 < length into = omega arith in
    let own = own_next t.committed.items into some in
    ap (λ xs. values c.copy_touched_blocks.new.pool (blocks_next t.committed.items xs) d) same
    ∙ ap (λ xs. values c.copy_touched_blocks.new.pool xs d) own
    ∙ settled_values t.pool c.copy_touched_blocks.new.pool c.copy_touched_blocks.ensures.words t.committed.items into (λ b. c.copy_touched_blocks.ensures.same b ∙ ap (λ xs. block_at xs b) c.deref.ensures.value) d
    ∙ ap (λ (t : Paged). values_now t d) c.self.view_is
