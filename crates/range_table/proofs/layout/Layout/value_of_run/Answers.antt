use Rattle.std.proofs.Common.{arith, suc, ◌-◌, ◌≡◌, sym, ap, ◌<◌, length}
use Rattle.range_table.specs.Layout.{Layout}
use Rattle.range_table.proofs.Lookups.{value_of_run-first, value_of_run-suc}
use Rattle.range_table.proofs.layout.Layout.value_of_run.Goals as goal

pub returns-then-run-eq0 : goal.returns-then-run-eq0
returns-then-run-eq0 g c = rw (← c.self.view_is, c.if-run-eq0.true) (sym (value_of_run-first _ _))

pub returns-else-run-eq0 : goal.returns-else-run-eq0
returns-else-run-eq0 g c =
    let view = ap (λ (l : Layout _). length l.changes) c.self.view_is in
    let within : c.args.run - 1 < length c.self.inside.changes.items = omega arith in
    let run : suc (c.args.run - 1) ≡ c.args.run = omega arith in
    let is = value_of_run-suc c.self.inside.first c.self.inside.changes.items (c.args.run - 1) c.index.result.now within c.index.ensures in
    rw (← c.self.view_is) (sym (rw run at is))
