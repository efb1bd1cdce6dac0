use Rattle.std.proofs.Common.{◌≡◌, ◌∙◌, ap}
use Rattle.paged_table.specs.Paged.{Paged, blocks_next, values_next, values_now}
use Rattle.paged_table.proofs.Steps.{values_next-stays, values_now-stays}
use Rattle.paged_table.proofs.paged_table.PagedTableTableU64.reserve.Goals as goal

pub returns-clause-now : goal.returns-clause-now
returns-clause-now c d lt =
    let t = c.self.inside in
    values_now-stays t.pool c.reserve-done.new.self t.committed.items (blocks_next t.committed.items t.prepared.items) c.self.invariant.0 c.reserve-done.ensures.live c.reserve-done.ensures.words d
    ∙ ap (λ (t : Paged). values_now t d) c.self.view_is

pub returns-clause-next : goal.returns-clause-next
returns-clause-next c d lt =
    let t = c.self.inside in
    values_next-stays t.pool c.reserve-done.new.self t.committed.items (blocks_next t.committed.items t.prepared.items) c.self.invariant.0 c.reserve-done.ensures.live c.reserve-done.ensures.words d
    ∙ ap (λ (t : Paged). values_next t d) c.self.view_is
