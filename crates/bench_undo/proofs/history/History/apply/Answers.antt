use Rattle.std.proofs.Common.{◌≡◌, ◌∷◌, List, take, sym, subst, arith}
use Rattle.release_rows.specs.Patches.{SpliceItems}
use Rattle.bench_undo.specs.Ways.{AreWays}
use Rattle.bench_undo.proofs.WayLemmas.{applied_in, put_first, ways_more}
use Rattle.bench_undo.proofs.history.History.apply.Goals as goal

pub invariant_of-self-2 : goal.invariant_of-self-2
invariant_of-self-2 g c =
    let depth = c.self.inside.depth in
    let ways : List (List SpliceItems) = c.self.inside.ways.items in
    let more : c.truncate.new.self.items ≡ take depth (c.in_ok-accepted.way ∷ ways) =
    put_first depth c.in_ok-accepted.way ways _ _ _ c.in_ok-make_room.ensures.items c.push_front_reserved.ensures.items c.truncate.ensures.items in (
      subst (λ (all : List (List SpliceItems)). AreWays all c.apply_kept.new.self.current) (sym more)
          (ways_more depth c.in_ok-accepted.way ways c.self.inside.bench.current c.apply_kept.new.self.current c.in_ok-accepted.ensures.kept c.self.invariant.0),
      omega (arith, c.truncate.ensures.len, c.truncate.new.self.ok.0),
      c.self.invariant.2,
      c.self.invariant.3,
    )

pub returns-clause-answer : goal.returns-clause-answer
returns-clause-answer g c =
    let depth = c.self.inside.depth in
    let ways : List (List SpliceItems) = c.self.inside.ways.items in
    let more : c.truncate.new.self.items ≡ take depth (c.in_ok-accepted.way ∷ ways) =
    put_first depth c.in_ok-accepted.way ways _ _ _ c.in_ok-make_room.ensures.items c.push_front_reserved.ensures.items c.truncate.ensures.items in
    rw (← c.self.view_is, more)
    (applied_in c.in_ok-accepted.accepted _ c.self.inside.bench c.apply_kept.new.self depth c.in_ok-accepted.way ways c.in_ok-accepted.ensures.answer c.in_ok-accepted.ensures.kept)
