use Rattle.std.proofs.Common.{◌≡◌, ◌<◌, ◌++◌, length, take, drop, refl, subst, sym, ap, ◌∙◌, arith}
use Rattle.paged_table.specs.Blocks.{block_at, values}
use Rattle.paged_table.specs.Layers.{IsApart, Covers}
use Rattle.paged_table.specs.Paged.{Paged, values_next}
use Rattle.paged_table.proofs.Apart.{IsApart-swap}
use Rattle.paged_table.proofs.OwnBlocks.{own_next, settled_values}
use Rattle.paged_table.proofs.Steps.{refill}
use Rattle.paged_table.proofs.paged_table.PagedTableTableU64.commit.Goals as goal

pub copy_touched_blocks-requires-clause-apart : goal.copy_touched_blocks-requires-clause-apart
copy_touched_blocks-requires-clause-apart c =
    let t = c.self.inside in
    let some : 0 < length t.prepared.items = grind (arith, c.if-is_empty.false, c.is_empty.ensures) in
    let apart = subst (λ ys. IsApart t.pool t.committed.items ys) (own_next t.committed.items t.prepared.items some) c.self.invariant.0 in
    rw (c.deref.ensures.value, c.deref_mut.ensures.value) (IsApart-swap t.pool t.committed.items t.prepared.items apart)

pub invariant_of-self : goal.invariant_of-self
invariant_of-self c =
    let t = c.self.inside in
    let into = c.copy_touched_blocks.new.into in
    let some : 0 < length t.prepared.items = grind (arith, c.if-is_empty.false, c.is_empty.ensures) in
    let own = own_next into t.prepared.items some in
    let len : length into ≡ t.committed.len = omega arith in
    let same = refill t.committed.len into (drop (length into) t.committed.items) len in
    let from = c.deref.ensures.value in
    let apart = subst (λ xs. IsApart c.copy_touched_blocks.new.pool xs into) from c.copy_touched_blocks.ensures.apart in
    let covers : Covers c.clear.new.self.items into t.prepared.items =
    rw c.clear.ensures.items
    (record {
      blocks = λ i lt. absurd (omega arith);
      others = λ b none. ap (λ xs. block_at xs b) (sym from) ∙ sym (c.copy_touched_blocks.ensures.same b);
    })
    in
    rw (same, own) (IsApart-swap c.copy_touched_blocks.new.pool t.prepared.items into apart, covers)

pub returns-clause-next : goal.returns-clause-next
returns-clause-next c = λ d lt.
    let t = c.self.inside in
    let into = c.copy_touched_blocks.new.into in
    let some : 0 < length t.prepared.items = grind (arith, c.if-is_empty.false, c.is_empty.ensures) in
    ap (λ xs. values c.copy_touched_blocks.new.pool xs d) (own_next (take t.committed.len (into ++ drop (length into) t.committed.items)) t.prepared.items some)
    ∙ settled_values t.pool c.copy_touched_blocks.new.pool c.copy_touched_blocks.ensures.words t.prepared.items t.prepared.items (λ b. refl) d
    ∙ ap (λ xs. values t.pool xs d) (sym (own_next t.committed.items t.prepared.items some))
    ∙ ap (λ (t : Paged). values_next t d) c.self.view_is

pub returns-clause-committed : goal.returns-clause-committed
returns-clause-committed c = λ d lt.
    let t = c.self.inside in
    let into = c.copy_touched_blocks.new.into in
    let some : 0 < length t.prepared.items = grind (arith, c.if-is_empty.false, c.is_empty.ensures) in
    let len : length into ≡ t.committed.len = omega arith in
    let same = refill t.committed.len into (drop (length into) t.committed.items) len in
    ap (λ xs. values c.copy_touched_blocks.new.pool xs d) same
    ∙ settled_values t.pool c.copy_touched_blocks.new.pool c.copy_touched_blocks.ensures.words t.prepared.items into (λ b. c.copy_touched_blocks.ensures.same b ∙ ap (λ xs. block_at xs b) c.deref.ensures.value) d
    ∙ ap (λ xs. values t.pool xs d) (sym (own_next t.committed.items t.prepared.items some))
    ∙ ap (λ (t : Paged). values_next t d) c.self.view_is
