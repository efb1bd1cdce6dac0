use Rattle.std.proofs.Common.{map, ap, ◌∙◌}
use Rattle.part_list.specs.Parts.{next_in, place}
use Rattle.release_rows.specs.StoredItems.{stored_at}
use Rattle.release_rows.proofs.Edited.{kept_without, map_remove}
use Rattle.release_rows.proofs.Noting.{notes_without}
use Rattle.release_rows.proofs.file_text.FileText.take_out.Goals as goal

pub invariant_of-self-2 : goal.invariant_of-self-2
invariant_of-self-2 c =
    let inside = c.self.inside in
    (kept_without inside.file inside.text inside.added (place inside.items.next c.in-Some.found) inside.items c.remove.new.self c.self.invariant.0 c.in_ok-remove.ensures.now c.in_ok-remove.ensures.ok, λ e. absurd cc, notes_without inside.file inside.text inside.seen_hashes (place inside.items.next c.in-Some.found) inside.items c.remove.new.self c.self.invariant.2 c.in_ok-remove.ensures.now c.in_ok-remove.ensures.ok, c.clear.ensures inside.file _ _)

pub returns-clause-next : goal.returns-clause-next
returns-clause-next c =
    let inside = c.self.inside in
    let st = stored_at inside.file inside.text in
    rw (← c.self.view_is, ← c.in-Some.ensures.1) (ap (map st) c.in_ok-remove.ensures.ok ∙ map_remove st (next_in inside.items) (place inside.items.next c.in-Some.found))
