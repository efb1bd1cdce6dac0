use Rattle.std.proofs.Common.{ℕ, ◌+◌, Some, sym, ap, ◌∙◌}
use Rattle.release_rows.specs.ValuesApartProofs.{rows_append}
use Rattle.release_rows.specs.FileItems.{lines_of, rows_in}
use Rattle.release_rows.specs.Loaders.{items_above}
use Rattle.release_rows.specs.Loading.{at_line, file_item}
use Rattle.release_rows.specs.Progress.{Progress}
use Rattle.release_rows.specs.StoredItems.{piece_of}
use Rattle.release_rows.proofs.Standing.{fault_is}
use Rattle.release_rows.proofs.loading.Loading.load_and_check.Goals as goal

pub returns-in-None-clause-keys : goal.returns-in-None-clause-keys
returns-in-None-clause-keys c =
    let l = c.args.self.now in
    let items = items_above l in
    let item = file_item l.file (piece_of c.args.piece) in
    let took = c.in_ok-take_row.ensures (rows_in items) item.row c.requires.keys c.requires.sound.before c.in_ok-entry.ensures.piece.1 in
    rw (ap (λ (all : Progress). all.items) c.in_ok-entry.ensures.progress, rows_append items item) (took.1 c.in-None.is)

pub returns-in-None-clause-piece : goal.returns-in-None-clause-piece
returns-in-None-clause-piece c =
    let l = c.args.self.now in
    let items = items_above l in
    let p = piece_of c.args.piece in
    let read = c.in_ok-entry.ensures.piece in
    let row = (file_item l.file p).row in
    let took = c.in_ok-take_row.ensures (rows_in items) row c.requires.keys c.requires.sound.before read.1 in
    (fault_is l.file items p row read.0 ∙ ap (at_line (lines_of items + 1)) (sym took.0 ∙ c.in-None.is), c.in_ok-entry.ensures.progress)

pub returns-in-Some-clause-piece : goal.returns-in-Some-clause-piece
returns-in-Some-clause-piece c =
    let l = c.args.self.now in
    let items = items_above l in
    let p = piece_of c.args.piece in
    let read = c.in_ok-entry.ensures.piece in
    let row = (file_item l.file p).row in
    let took = c.in_ok-take_row.ensures (rows_in items) row c.requires.keys c.requires.sound.before read.1 in
    fault_is l.file items p row read.0 ∙ ap (at_line (lines_of items + 1)) (sym took.0 ∙ c.in-Some.is) ∙ ap (λ (n : ℕ). at_line (n + 1) (Some c.in-Some.rule)) (sym c.requires.sound.lines)
