use Rattle.std.proofs.Common.{◌≡◌, ◌+◌, ap, sym, subst, ◌∙◌, arith}
use Rattle.paged_table.specs.Blocks.{block_at}
use Rattle.paged_table.specs.Paged.{Paged, blocks_next, values_now}
use Rattle.paged_table.specs.Pages.{uneven_count, block_count}
use Rattle.paged_table.proofs.Counts.{count-page, count-one}
use Rattle.paged_table.proofs.paged_table.PagedTable.pages.Goals as goal
use Rattle.paged_table.proofs.paged_table.PagedTable.pages.Goals.{in-Page, in-One}

pub loop-block-preserved : goal.loop-block-preserved
loop-block-preserved c =
    let t = c.self.inside in
    let i = c.loop-block.block-index in
    let before = c.loop-block.invariant in
    elim c.match-block.branch [
      | in-Page w ↦
          let is = w.in-Page.is in
          let step = subst (λ (t : Paged). uneven_count (values_now t) (i + 1) ≡ uneven_count (values_now t) i + 1) c.self.view_is (count-page t.pool t.committed.items (blocks_next t.committed.items t.prepared.items) i w.in-Page.field-0 c.self.invariant.0 (ap (λ xs. block_at xs i) (sym c.as_slice-block-items.ensures.value) ∙ is)) in
          record { count = w.pages-is ∙ ap (λ n. n + 1) before.count ∙ sym step; bound = omega arith }
      | in-One w ↦
          let step = subst (λ (t : Paged). uneven_count (values_now t) (i + 1) ≡ uneven_count (values_now t) i) c.self.view_is (count-one t.pool t.committed.items i w.in-One.field-0 (ap (λ xs. block_at xs i) (sym c.as_slice-block-items.ensures.value) ∙ w.in-One.is)) in
          record { count = w.pages-is ∙ before.count ∙ sym step; bound = omega arith }
    ]

pub returns : goal.returns
unfolding block_count
returns c =
    let all = c.self.invariant.0.count in
    let end : c.loop-block.block-index ≡ 4352 = omega arith in
    c.loop-block.invariant.count ∙ ap (λ n. uneven_count (values_now c.args.self.now) n) end
