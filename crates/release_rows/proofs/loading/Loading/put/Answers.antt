use Rattle.std.proofs.Common.{ap, ◌∙◌}
use Rattle.release_rows.specs.Tags.{content_tag}
use Rattle.release_rows.proofs.Standing.{loads}
use Rattle.release_rows.proofs.loading.Loading.put.Goals as goal

pub returns-clause-sound : goal.returns-clause-sound
returns-clause-sound c =
    let l = c.args.self.now in
    rw (c.last_row_start-self.ensures, c.from.ensures, c.ending_len.ensures)
    (loads l.file l.text.now l.items c.push.new.self c.entry_of_item-item.result c.args.stored l.before l.lines l.end c.args.entry.now c.requires.sound
    c.entry_of_item-item.ensures.item c.in_ok-push.ensures.now c.in_ok-push.ensures.next c.requires.item (c.entry_of_item-item.ensures.span _ _ c.requires.enters)
    (c.entry_of_item-item.ensures.tag ∙ c.content_tag-tag.ensures ∙ ap (content_tag c.args.self.now.file) c.content_in.ensures) c.requires.enters)
