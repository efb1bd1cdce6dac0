use Rattle.std.proofs.Common.{◌≡◌, ◌/◌, ◌<◌, length, subst, ap, sym, ◌∙◌, arith}
use Rattle.std.proofs.lemmas.List.{get_or_default}
use Rattle.paged_table.specs.declared.block.Block.TheVariants.{One, Page}
use Rattle.paged_table.specs.Blocks.{block_at}
use Rattle.paged_table.specs.Paged.{Paged, blocks_next, values_now}
use Rattle.paged_table.specs.Pages.{IsPageOf}
use Rattle.paged_table.proofs.Counts.{page-of}
use Rattle.paged_table.proofs.paged_table.PagedTable.page.Goals as goal

pub returns-in-Page : goal.returns-in-Page
returns-in-Page c =
    let t = c.self.inside in
    let blocks = t.committed.items in
    let b = c.number.result / 256 in
    let count = c.self.invariant.0.count in
    let inside : b < length blocks = omega arith in
    let at : block_at blocks b ≡ Page c.in-Page.page = get_or_default blocks b (One 0) c.index.result.now inside ∙ sym c.index.ensures ∙ c.in-Page.is in
    let here : block_at blocks (c.args.c / 256) ≡ Page c.in-Page.page = ap (λ n. block_at blocks (n / 256)) (sym c.number.ensures.value) ∙ at in
    subst (λ (t : Paged). IsPageOf t.pool (values_now t) (c.args.c / 256) c.in-Page.page) c.self.view_is
    (page-of t.pool blocks (blocks_next t.committed.items t.prepared.items) (c.args.c / 256) c.in-Page.page c.self.invariant.0 here)
