use Rattle.std.proofs.Common.{length, ap, subst, arith}
use Rattle.bench_undo.specs.Histories.{AreSound, HistoryState}
use Rattle.bench_undo.proofs.WayLemmas.{length-states, sound_states}
use Rattle.bench_undo.proofs.history.History.is_sound.Goals as goal

pub returns-clause-states : goal.returns-clause-states
returns-clause-states c = subst AreSound c.self.view_is (sound_states c.self.inside.ways.items c.self.inside.bench.current c.self.invariant.0)

pub returns-clause-few : goal.returns-clause-few
returns-clause-few c =
    omega (arith, c.self.invariant.1, length-states c.self.inside.ways.items c.self.inside.bench.current, ap (λ (s : HistoryState). length s.earlier) c.self.view_is, ap (λ (s : HistoryState). s.depth) c.self.view_is)
