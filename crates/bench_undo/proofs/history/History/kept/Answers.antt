use Rattle.std.proofs.Common.{length, ap, sym, ◌∙◌}
use Rattle.bench_undo.specs.Histories.{HistoryState}
use Rattle.bench_undo.proofs.WayLemmas.{length-states}
use Rattle.bench_undo.proofs.history.History.kept.Goals as goal

pub returns : goal.returns
returns c =
    c.len.ensures ∙ c.self.inside.ways.ok.0 ∙ sym (length-states c.self.inside.ways.items c.self.inside.bench.current) ∙ ap (λ (s : HistoryState). length s.earlier) c.self.view_is
