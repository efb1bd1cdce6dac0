use Rattle.std.proofs.Common.{◌≡◌, ◌+◌, suc, arith}
use Rattle.range_table.proofs.Lookups.{count_before-le, value_of_run-count_before}
use Rattle.range_table.proofs.layout.Layout.run.Goals as goal

pub value_of_run-requires : goal.value_of_run-requires
value_of_run-requires g c = rw c.count_before_with_hint-index.ensures (count_before-le _ _)

pub returns-clause-value : goal.returns-clause-value
returns-clause-value g c =
    let at = value_of_run-count_before c.args.self.now.first c.args.self.now.changes c.args.c in
    let next : c.number.result + 1 ≡ suc c.args.c = omega arith in
    rw (c.value_of_run.ensures, c.count_before_with_hint-index.ensures, next) at
