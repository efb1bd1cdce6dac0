use Rattle.std.proofs.Common.{◌<◌, List, length, refl, arith}
use Rattle.release_rows.specs.Patches.{SpliceItems}
use Rattle.bench_undo.proofs.WayLemmas.{counted_in, undone_in}
use Rattle.bench_undo.proofs.history.History.undo.Goals as goal

pub returns-clause-answer : goal.returns-clause-answer
returns-clause-answer g c =
    let ways : List (List SpliceItems) = c.self.inside.ways.items in
    let some : 0 < length ways = omega (arith, c.in-Some.ensures.variant.0 refl, c.self.inside.ways.ok.0) in
    rw (← c.self.view_is, c.pop_front.ensures.rest) (undone_in c.in_ok-accepted.accepted c.self.inside.bench c.revert.new.self c.self.inside.depth ways c.in-Some.way.now some c.in-Some.ensures.lookup c.in_ok-accepted.ensures.answer)

pub returns-clause-counted : goal.returns-clause-counted
returns-clause-counted g c =
    let ways : List (List SpliceItems) = c.self.inside.ways.items in
    let some : 0 < length ways = omega (arith, c.in-Some.ensures.variant.0 refl, c.self.inside.ways.ok.0) in
    rw (← c.self.view_is) (counted_in c.self.inside.depth ways c.in-Some.way.now c.self.inside.bench.current c.args.steps.now c.revert.new.steps some c.in-Some.ensures.lookup c.revert.ensures.counted)
