use Rattle.std.proofs.Common.{◌≡◌, length, ap, ◌∙◌}
use Rattle.ucd_lines.specs.Items.{ending_of}
use Rattle.release_rows.specs.FileItems.{bytes_of}
use Rattle.release_rows.specs.Loaders.{items_above, progress_of}
use Rattle.release_rows.specs.Progress.{with_item}
use Rattle.release_rows.specs.StoredItems.{piece_of}
use Rattle.release_rows.proofs.Standing.{content_is, item_is}
use Rattle.release_rows.proofs.loading.Loading.load_piece.Goals as goal

pub content_of-content-requires : goal.content_of-content-requires
content_of-content-requires c =
    let l = c.args.self.now in
    let s = c.stored_item_of-unread.result in
    content_is l.text.now (items_above l) (piece_of c.args.piece) s c.requires.stands (c.stored_item_of-unread.ensures.start ∙ c.requires.sound.ends) c.stored_item_of-unread.ensures.len

pub returns-clause-progress : goal.returns-clause-progress
returns-clause-progress c =
    let p = piece_of c.args.piece in
    let l = c.args.self.now in
    let items = items_above l in
    let s = c.with_brief.result in
    let same = c.with_brief.ensures in
    let unread = c.stored_item_of-unread.ensures in
    let start : s.start ≡ length (bytes_of items) = same.start ∙ unread.start ∙ c.requires.sound.ends in
    let item = item_is l.file l.text.now s p (content_is l.text.now items p s c.requires.stands start (same.len ∙ unread.len)) (ap ending_of same.ending ∙ unread.ending) (same.lines ∙ unread.lines) in
    c.in_ok-put.ensures.progress ∙ ap (with_item (progress_of l)) item
