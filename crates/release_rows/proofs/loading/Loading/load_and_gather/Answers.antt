use Rattle.std.proofs.Common.{ap}
use Rattle.release_rows.specs.ValuesApartProofs.{rows_append}
use Rattle.release_rows.specs.FileItems.{rows_in}
use Rattle.release_rows.specs.Loaders.{items_above}
use Rattle.release_rows.specs.Loading.{file_item}
use Rattle.release_rows.specs.Progress.{Progress}
use Rattle.release_rows.specs.StoredItems.{piece_of}
use Rattle.release_rows.proofs.Gathered.{gathers}
use Rattle.release_rows.proofs.loading.Loading.load_and_gather.Goals as goal

pub returns-clause-rows : goal.returns-clause-rows
returns-clause-rows c =
    let l = c.args.self.now in
    let items = items_above l in
    let item = file_item l.file (piece_of c.args.piece) in
    rw (ap (λ (all : Progress). all.items) c.in_ok-entry.ensures.progress, rows_append items item)
    (gathers l.file (rows_in items) item.row c.args.rows.now.items c.put_placed.new.rows.items c.in_ok-entry.entry c.requires.rows c.in_ok-put_placed.ensures c.in_ok-entry.ensures.piece.1)
