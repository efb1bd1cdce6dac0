use Rattle.std.proofs.Common.{◌≡◌, List, ap, ◌∙◌}
use Rattle.release_rows.specs.Releases.{ReleaseItems, FileItem}
use Rattle.bench_undo.specs.Histories.{HistoryState}
use Rattle.bench_undo.proofs.history.History.bench.Goals as goal

-- a bench has nothing prepared
pub returns : goal.returns
returns c =
    let bench : ReleaseItems = c.self.inside.bench in
    let still : bench.prepared ≡ bench.current = c.has_nothing_prepared.ensures in
    ap (λ (files : List (List FileItem)). let r : ReleaseItems = record { current = bench.current; prepared = files } in r) still
    ∙ ap (λ (s : HistoryState). let r : ReleaseItems = record { current = s.files; prepared = s.files } in r) c.self.view_is
