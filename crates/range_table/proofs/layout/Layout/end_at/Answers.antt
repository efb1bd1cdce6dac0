use Rattle.std.proofs.Common.{◌≡◌, ◌+◌, ◌<◌, suc, length, sym, arith, ap, subst, ◌∙◌}
use Rattle.range_table.specs.Layout.{count_before, value_at, IsEnd}
use Rattle.range_table.proofs.Lookups.{count_before-le}
use Rattle.range_table.proofs.RunEnds.{end_of_run, end_of_run-all, end_of_run-start, ends_at}
use Rattle.range_table.proofs.layout.Layout.end_at.Goals as goal

pub index-requires : goal.index-requires
index-requires g c =
    let xs = c.self.inside.changes.items in
    let next : c.args.c + 1 ≡ suc c.args.c = omega arith in
    let run : c.args.run ≡ count_before (suc c.args.c) xs = rw next at (rw (← c.self.view_is) at c.requires) in
    omega (arith, count_before-le (suc c.args.c) xs)

pub returns-then-run-len : goal.returns-then-run-len
returns-then-run-len g c =
    let xs = c.self.inside.changes.items in
    let next : c.args.c + 1 ≡ suc c.args.c = omega arith in
    let run : c.args.run ≡ count_before (suc c.args.c) xs = rw next at (rw (← c.self.view_is) at c.requires) in
    let last : count_before (suc c.args.c) xs ≡ length xs = omega arith in
    let is = ends_at g.V.PartialEq.eq 0 c.self.inside.first xs c.args.c c.self.invariant.follow (omega arith) in
    rw (← c.self.view_is) (subst (IsEnd g.V.PartialEq.eq (value_at c.self.inside.first xs) c.args.c) (ap (end_of_run xs) last ∙ end_of_run-all xs) is)

pub returns-else-run-len : goal.returns-else-run-len
returns-else-run-len g c =
    let xs = c.self.inside.changes.items in
    let next : c.args.c + 1 ≡ suc c.args.c = omega arith in
    let run : c.args.run ≡ count_before (suc c.args.c) xs = rw next at (rw (← c.self.view_is) at c.requires) in
    let within : c.args.run < length xs = omega (arith, count_before-le (suc c.args.c) xs) in
    let is = ends_at g.V.PartialEq.eq 0 c.self.inside.first xs c.args.c c.self.invariant.follow (omega arith) in
    rw (← c.self.view_is) (subst (IsEnd g.V.PartialEq.eq (value_at c.self.inside.first xs) c.args.c) (ap (end_of_run xs) (sym run) ∙ end_of_run-start xs c.args.run c.index.result.now within c.index.ensures) is)
