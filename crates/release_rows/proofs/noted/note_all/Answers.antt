use Rattle.std.proofs.Common.{◌≡◌, [], map, arith}
use Rattle.std.proofs.lemmas.List.Elements.{All-rest}
use Rattle.release_rows.specs.Noted.{AreNoted}
use Rattle.release_rows.specs.StoredItems.{IsStored, stored_at}
use Rattle.release_rows.proofs.Noting.{noted_next}
use Rattle.release_rows.proofs.noted.note_all.Goals as goal

-- the group of one more entry is noted
pub entries-preserved : goal.entries-preserved
entries-preserved c = record {
  each = All-rest (IsStored c.args.file c.args.text.now) c.in-Some.entry c.next.new.self c.entries.entries c.in-Some.ensures.steps c.entries.invariant.each;
  so_far = noted_next c.args.file c.args.text.now c.entries.seen_hashes c.note_hashes.new.seen_hashes c.entries.entries c.in-Some.entry c.next.new.self (map (stored_at c.args.file c.args.text.now) c.args.entries) c.in-Some.ensures.steps c.entries.invariant.each (rw (← c.content_in.ensures) c.note_hashes.ensures.noted) c.note_hashes.ensures.grows c.entries.invariant.so_far;
  grows = λ t h. c.note_hashes.ensures.grows t (c.entries.invariant.grows t h);
}

pub returns-clause-noted : goal.returns-clause-noted
returns-clause-noted c =
    let st = stored_at c.args.file c.args.text.now in
    let empty : c.entries.entries ≡ [] = c.in_default.ensures.steps.0 in
    let none : AreNoted c.args.file c.entries.seen_hashes (map st c.entries.entries) = rw empty (λ k d lt. absurd (omega arith)) in
    c.entries.invariant.so_far c.entries.seen_hashes (λ t h. h) none
