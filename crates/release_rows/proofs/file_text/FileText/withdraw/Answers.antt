use Rattle.std.proofs.Common.{rules, ◌≡◌, Ok, Err, map, refl, sym, ap, subst, ◌∙◌, remove}
use Rattle.std.proofs.lemmas.List.Elements.{All-get_or}
use Rattle.part_list.specs.Parts.{next_in, place}
use Rattle.part_list.specs.SpotLaws.{place-lt}
use Rattle.release_rows.specs.FileItems.{FileLists}
use Rattle.release_rows.specs.Finding.{FindsRow, items_of}
use Rattle.release_rows.specs.Operations.{edited, has_key, spans_of, spans_with}
use Rattle.release_rows.specs.Releases.{AreKept}
use Rattle.release_rows.specs.StoredItems.{IsStored, stored_at}
use Rattle.release_rows.specs.declared.operation.Op.TheVariants.{Withdraw}
use Rattle.release_rows.proofs.Edited.{kept_without, map_remove}
use Rattle.release_rows.proofs.EntrySpans.{has_row}
use Rattle.release_rows.proofs.FirstRows.{first_passes, first_spans, items_of_withdrawal, rule_of_withdrawal}
use Rattle.release_rows.proofs.Noting.{notes_without}
use Rattle.release_rows.proofs.OneRow.{has_key_once}
use Rattle.release_rows.proofs.file_text.FileText.withdraw.Goals as goal

pub returns-in_err-spot-clause-answer : goal.returns-in_err-spot-clause-answer
returns-in_err-spot-clause-answer c =
    let inside = c.self.inside in
    let found : FindsRow (Err c.in_err-spot.field-0.0) (has_key inside.file c.args.key.now) (items_of inside.file inside.text inside.items.next) inside.items.next = rw (← c.as_slice.ensures) c.in_err-spot.ensures in
    let rule : edited c.args.self.now.next (Withdraw c.args.self.now.file c.args.key.now) ≡ Err c.in_err-spot.field-0.0 = rw (← c.self.view_is) (rule_of_withdrawal c.in_err-spot.field-0.0 inside.file c.args.key.now inside.text inside.items.next found) in
    search (rules, rule)

pub invariant_of-self-2 : goal.invariant_of-self-2
invariant_of-self-2 c =
    let inside = c.self.inside in (
      kept_without inside.file inside.text inside.added (place inside.items.next c.in_ok-spot.spot) inside.items c.remove.new.self c.self.invariant.0 c.in_ok-remove.ensures.now c.in_ok-remove.ensures.ok,
      λ e. absurd cc,
      notes_without inside.file inside.text inside.seen_hashes (place inside.items.next c.in_ok-spot.spot) inside.items c.remove.new.self c.self.invariant.2 c.in_ok-remove.ensures.now c.in_ok-remove.ensures.ok,
      c.clear.ensures inside.file _ _,
    )

pub returns-clause-answer : goal.returns-clause-answer
returns-clause-answer c =
    let inside = c.self.inside in
    let key = c.args.key.now in
    let parts = inside.items.next in
    let spot = c.in_ok-spot.spot in
    let old = c.get-old.result in
    let items = items_of inside.file inside.text parts in
    let p = has_key inside.file key in
    let kept : AreKept inside.file items = subst (λ (l : FileLists). AreKept l.file l.next) (sym c.self.view_is) c.requires.kept in
    let found : FindsRow (Ok spot) p items parts = rw (← c.as_slice.ensures) c.in_ok-spot.ensures in
    let st = stored_at inside.file inside.text in
    let items_next = map st (next_in c.remove.new.self) in
    let new : items_next ≡ remove items (place parts spot) = ap (map st) c.in_ok-remove.ensures.ok ∙ map_remove st (next_in inside.items) (place parts spot) in
    let is : edited items (Withdraw inside.file key) ≡ Ok items_next = items_of_withdrawal inside.file inside.text parts spot old c.get-old.ensures key items_next found kept new in
    let stored : IsStored inside.file inside.text old = subst (IsStored inside.file inside.text) (sym c.get-old.ensures) (All-get_or (IsStored inside.file inside.text) (next_in inside.items) (place parts spot) old (place-lt parts spot found.0) c.self.invariant.0.next) in
    let some = has_row p (stored_at inside.file inside.text old) (first_passes inside.file inside.text parts spot old c.get-old.ensures p found) in
    let all : spans_with p items ≡ spans_of (stored_at inside.file inside.text old).row = first_spans inside.file inside.text parts spot old c.get-old.ensures p found (has_key_once inside.file key) kept in
    let spans : c.in_ok-spans.spans ≡ spans_of (stored_at inside.file inside.text old).row = c.in_ok-spans.ensures inside.text stored some in
    rw (← c.self.view_is, is, all) (refl, spans)
