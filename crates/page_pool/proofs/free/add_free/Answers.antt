use Rattle.std.proofs.Common.{◌≡◌, ◌+◌, ◌-◌, ◌∷◌, ◌++◌, [], false, length, arith, ap, ◌∙◌}
use Rattle.page_pool.proofs.Spares.{IsFree-add, spare-push, pages-push}
use Rattle.page_pool.proofs.free.add_free.Goals as goal

pub loop-page-preserved : goal.loop-page-preserved
loop-page-preserved c =
    let before = c.loop-page.invariant in
    let live = c.push_reserved.ensures.items in
    let free = c.push_reserved-in-loop-page.ensures.items in
    let page : c.loop-page.page ≡ length c.loop-page.live.items = omega arith in
    record {
      live = live ∙ ap (λ xs. xs ++ false ∷ []) before.live ∙ pages-push c.args.live.now.items (c.loop-page.page - c.len-pages.result) (c.loop-page.page + 1 - c.len-pages.result) (omega arith);
      live_len = omega arith;
      live_room = c.push_reserved.ensures.capacity ∙ before.live_room;
      free = rw live (IsFree-add c.loop-page.live.items c.loop-page.free.items _ before.free (free ∙ ap (λ p. c.loop-page.free.items ++ p ∷ []) page));
      free_len = omega arith;
      free_room = c.push_reserved-in-loop-page.ensures.capacity ∙ before.free_room;
      spare = rw live (omega (arith, spare-push c.loop-page.live.items));
    }
