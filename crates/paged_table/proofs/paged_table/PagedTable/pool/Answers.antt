use Rattle.std.proofs.Common.{◌≡◌, ℕ, false, subst}
use Rattle.page_pool.specs.Pool.{is_live}
use Rattle.paged_table.specs.Layers.{IsUnused}
use Rattle.paged_table.specs.Paged.{Paged}
use Rattle.paged_table.proofs.paged_table.PagedTable.pool.Goals as goal

pub returns-clause-unused : goal.returns-clause-unused
returns-clause-unused c =
    subst (λ (t : Paged). (p : ℕ) → IsUnused t.committed t.prepared p → is_live c.self.inside.pool p ≡ false) c.self.view_is c.self.invariant.0.unused
