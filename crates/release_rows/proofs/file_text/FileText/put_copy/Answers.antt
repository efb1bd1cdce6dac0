use Rattle.std.proofs.Common.{◌≡◌, ℕ, List, map, length, sym, ap, subst, ◌∙◌, arith, insert}
use Rattle.std.proofs.lemmas.List.{length-map}
use Rattle.ucd_points.specs.PlainProofs.{map_insert}
use Rattle.part_list.specs.Parts.{now_in, next_in}
use Rattle.release_rows.specs.FileItems.{FileItem, FileLists}
use Rattle.release_rows.specs.Noted.{AreNoted, ItemNoted, KeepNotes}
use Rattle.release_rows.specs.StoredItems.{IsStored, stored_at}
use Rattle.release_rows.proofs.Arena.{items_kept}
use Rattle.release_rows.proofs.Backward.{kept_inserted}
use Rattle.release_rows.proofs.Edited.{kept_grown}
use Rattle.release_rows.proofs.Noting.{noted_insert, noted_more, noted_stored, notes_edited, notes_grown}
use Rattle.release_rows.proofs.file_text.FileText.put_copy.Goals as goal

pub returns-in_err-put_at-clause-now : goal.returns-in_err-put_at-clause-now
returns-in_err-put_at-clause-now c =
    let inside = c.self.inside in
    rw (c.put_at.ensures.now, c.in_ok-copy.ensures.grows.1, ← c.self.view_is) (items_kept inside.file inside.text c.in_ok-copy.ensures.grows.0 (now_in inside.items) c.self.invariant.0.now)

pub invariant_of-self-in_err-put_at : goal.invariant_of-self-in_err-put_at
invariant_of-self-in_err-put_at c =
    let inside = c.self.inside in
    let grew = c.in_ok-copy.ensures.grows in (
      rw (c.in_err-put_at.ensures.err, grew.1) (kept_grown inside.file inside.text grew.0 inside.added inside.items c.self.invariant.0),
      λ e. absurd cc,
      rw (c.in_err-put_at.ensures.err, grew.1) (notes_grown inside.file inside.text grew.0 inside.added inside.seen_hashes c.note_hashes.new.seen_hashes inside.items c.self.invariant.0 c.self.invariant.2 c.note_hashes.ensures.grows),
      c.clear.ensures inside.file _ _,
    )

pub invariant_of-self-2 : goal.invariant_of-self-2
invariant_of-self-2 c =
    let inside = c.self.inside in
    let within = c.requires.within in
    let here = ap (λ (l : FileLists). length l.next) c.self.view_is in
    let long = length-map (next_in inside.items) (stored_at inside.file inside.text) in
    let more = c.in-Some.ensures in
    let later = c.note_hashes.new.seen_hashes in
    let st = stored_at inside.file c.copy_entry.new.into in
    let kept : map st (next_in inside.items) ≡ map (stored_at inside.file inside.text) (next_in inside.items) = rw c.in_ok-copy.ensures.grows.1 (items_kept inside.file inside.text c.in_ok-copy.ensures.grows.0 (next_in inside.items) c.self.invariant.0.next) in
    let before : AreNoted inside.file later (map st (next_in inside.items)) = rw kept (noted_more inside.file inside.seen_hashes later _ c.note_hashes.ensures.grows c.self.invariant.2.next) in
    let stored = subst (λ (l : FileLists). IsStored l.file c.args.from.now c.args.entry.now) (sym c.self.view_is) c.requires.stored in
    let one : ItemNoted inside.file later (st c.in_ok-copy.copy) = subst (ItemNoted inside.file later) (sym c.in_ok-copy.ensures.item) (noted_stored inside.file later c.args.from.now c.args.entry.now stored (rw (← c.content_in.ensures) c.note_hashes.ensures.noted)) in
    let new : map st (next_in c.put_at.new.items) ≡ insert (map st (next_in inside.items)) c.args.at (st c.in_ok-copy.copy) = ap (map st) c.in_ok-put_at.ensures.ok ∙ map_insert st (next_in inside.items) c.args.at c.in_ok-copy.copy in
    let all = subst (λ (t : List ℕ). AreNoted inside.file later (map (stored_at inside.file t) (next_in c.put_at.new.items))) c.in_ok-copy.ensures.grows.1 (rw new (noted_insert inside.file later (map st (next_in inside.items)) c.args.at (st c.in_ok-copy.copy) before one)) in
    let hashes : KeepNotes inside.file c.copy_entry.new.into later c.put_at.new.items = rw c.in_ok-copy.ensures.grows.1 (notes_edited inside.file inside.text c.in_ok-copy.ensures.grows.0 inside.added inside.seen_hashes later inside.items c.put_at.new.items c.self.invariant.0 c.self.invariant.2 c.note_hashes.ensures.grows c.put_at.ensures.now all) in
    (kept_inserted inside.file inside.text c.copy_entry.new.into inside.added c.in-Some.added c.args.at c.in_ok-copy.copy inside.items c.put_at.new.items c.in_ok-copy.ensures.grows c.self.invariant.0 c.put_at.ensures.now c.in_ok-put_at.ensures.ok (omega arith) c.in_ok-copy.ensures.stored (omega arith) (omega arith), λ e. absurd cc, hashes, c.clear.ensures inside.file _ _)

pub returns-clause-now : goal.returns-clause-now
returns-clause-now c =
    let inside = c.self.inside in
    rw (c.put_at.ensures.now, c.in_ok-copy.ensures.grows.1, ← c.self.view_is) (items_kept inside.file inside.text c.in_ok-copy.ensures.grows.0 (now_in inside.items) c.self.invariant.0.now)

pub returns-clause-next : goal.returns-clause-next
returns-clause-next c =
    let inside = c.self.inside in
    let st = stored_at inside.file c.copy_entry.new.into in
    let kept : map st (next_in inside.items) ≡ map (stored_at inside.file inside.text) (next_in inside.items) = rw c.in_ok-copy.ensures.grows.1 (items_kept inside.file inside.text c.in_ok-copy.ensures.grows.0 (next_in inside.items) c.self.invariant.0.next) in
    ap (map st) c.in_ok-put_at.ensures.ok ∙ map_insert st (next_in inside.items) c.args.at c.in_ok-copy.copy
    ∙ rw (← c.self.view_is) (ap (λ (xs : List FileItem). insert xs c.args.at (st c.in_ok-copy.copy)) kept ∙ ap (insert (map (stored_at inside.file inside.text) (next_in inside.items)) c.args.at) c.in_ok-copy.ensures.item)
