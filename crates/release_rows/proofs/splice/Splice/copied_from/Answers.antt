use Rattle.std.proofs.Common.{◌≡◌, List, map, ap, ◌∙◌}
use Rattle.release_rows.specs.FileItems.{FileItem}
use Rattle.release_rows.specs.Patches.{SpliceItems}
use Rattle.release_rows.specs.StoredItems.{stored_at}
use Rattle.release_rows.proofs.Backward.{copies_kept}
use Rattle.release_rows.proofs.splice.Splice.copied_from.Goals as goal

pub returns : goal.returns
returns c =
    let text = c.copied-2.new.into in
    let own = stored_at c.args.file text in
    let given = stored_at c.args.file c.args.text.now in
    let later : map own c.in_ok-later.later ≡ map given c.args.later.now = (copies_kept c.args.file c.args.text.now c.copied.new.into text c.args.later.now c.in_ok-later.later c.in_ok-earlier.ensures.grows c.in_ok-later.ensures.copies).items in
    let earlier : map own c.in_ok-earlier.earlier ≡ map given c.args.earlier.now = c.in_ok-earlier.ensures.copies.items in
    ap (λ (xs : List FileItem). let s : SpliceItems = record { file = c.args.file; at = c.args.at; later = xs; earlier = map own c.in_ok-earlier.earlier } in s) later
    ∙ ap (λ (xs : List FileItem). let s : SpliceItems = record { file = c.args.file; at = c.args.at; later = map given c.args.later.now; earlier = xs } in s) earlier
