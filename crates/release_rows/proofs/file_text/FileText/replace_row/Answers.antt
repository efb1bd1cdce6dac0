use Rattle.std.proofs.Common.{rules, ◌≡◌, ℕ, ◌++◌, Ok, Err, List, map, set, refl, sym, ap, subst, ◌∙◌}
use Rattle.std.proofs.lemmas.List.{map-set}
use Rattle.std.proofs.lemmas.List.Elements.{All-get_or}
use Rattle.part_list.specs.Parts.{now_in, next_in, place}
use Rattle.part_list.specs.SpotLaws.{place-lt}
use Rattle.release_rows.specs.FileItems.{FileLists}
use Rattle.release_rows.specs.Finding.{items_of}
use Rattle.release_rows.specs.Noted.{AreNoted, ItemNoted}
use Rattle.release_rows.specs.Keys.{same_key}
use Rattle.release_rows.specs.Operations.{edited, item_of_row, row_spans, spans_of, spans_with}
use Rattle.release_rows.specs.Releases.{AreKept}
use Rattle.release_rows.specs.StoredItems.{IsStored, stored_at}
use Rattle.release_rows.specs.declared.operation.Op.TheVariants.{Change}
use Rattle.release_rows.proofs.Arena.{items_kept}
use Rattle.release_rows.proofs.Edited.{kept_grown, kept_replaced}
use Rattle.release_rows.proofs.EntrySpans.{has_row}
use Rattle.release_rows.proofs.FirstRows.{finds_spot, first_passes, first_spans, items_of_change, rule_of_change}
use Rattle.release_rows.proofs.Noting.{noted_more, noted_set, notes_edited, notes_grown, notes_more}
use Rattle.release_rows.proofs.OneRow.{same_key_once}
use Rattle.release_rows.proofs.file_text.FileText.replace_row.Goals as goal

pub returns-in_err-spot-clause-answer : goal.returns-in_err-spot-clause-answer
returns-in_err-spot-clause-answer c =
    let inside = c.self.inside in
    let found = finds_spot (Err c.in_err-spot.field-0.0) inside.file c.args.row.now inside.text c.search_row-search.result inside.items.next (rw (← c.as_slice.ensures) c.search_row-search.ensures) c.in_err-spot.ensures in
    let rule : edited c.args.self.now.next (Change c.args.self.now.file c.args.row.now c.args.bytes.now) ≡ Err c.in_err-spot.field-0.0 = rw (← c.self.view_is) (rule_of_change c.in_err-spot.field-0.0 inside.file c.args.row.now inside.text c.args.bytes.now inside.items.next found) in
    search (rules, rule)

pub invariant_of-self : goal.invariant_of-self
invariant_of-self c =
    let inside = c.self.inside in
    (rw c.in_err-entry.ensures.err c.self.invariant.0, λ e. absurd cc, rw c.in_err-entry.ensures.err (notes_more inside.file inside.text inside.seen_hashes c.store_row.new.seen_hashes inside.items c.store_row.ensures.grows c.self.invariant.2), c.clear.ensures inside.file _ _)

pub invariant_of-self-in_err-replace : goal.invariant_of-self-in_err-replace
invariant_of-self-in_err-replace c =
    let inside = c.self.inside in
    (rw (c.in_err-replace.ensures.err, c.in_ok-entry.ensures.ok) (kept_grown inside.file inside.text c.args.bytes.now inside.added inside.items c.self.invariant.0), λ e. absurd cc, rw (c.in_err-replace.ensures.err, c.in_ok-entry.ensures.ok) (notes_grown inside.file inside.text c.args.bytes.now inside.added inside.seen_hashes c.store_row.new.seen_hashes inside.items c.self.invariant.0 c.self.invariant.2 c.store_row.ensures.grows), c.clear.ensures inside.file _ _)

pub returns-in_err-replace-clause-now : goal.returns-in_err-replace-clause-now
returns-in_err-replace-clause-now c =
    let inside = c.self.inside in
    rw (c.in_err-replace.ensures.err, c.in_ok-entry.ensures.ok, ← c.self.view_is) (items_kept inside.file inside.text c.args.bytes.now (now_in inside.items) c.self.invariant.0.now)

pub returns-in_err-replace-clause-answer : goal.returns-in_err-replace-clause-answer
returns-in_err-replace-clause-answer c =
    let inside = c.self.inside in
    let same : map (stored_at inside.file c.store_row.new.text) (next_in c.replace.new.self) ≡ c.args.self.now.next = rw (c.in_err-replace.ensures.err, c.in_ok-entry.ensures.ok, ← c.self.view_is) (items_kept inside.file inside.text c.args.bytes.now (next_in inside.items) c.self.invariant.0.next) in
    search (rules, same)

pub invariant_of-self-2 : goal.invariant_of-self-2
invariant_of-self-2 c =
    let inside = c.self.inside in
    let stored : IsStored inside.file (inside.text ++ c.args.bytes.now) c.in_ok-entry.entry = subst (λ (t : List ℕ). IsStored inside.file t c.in_ok-entry.entry) c.in_ok-entry.ensures.ok c.in_ok-entry.ensures.stored in
    let later = c.store_row.new.seen_hashes in
    let old = c.get-old.result in
    let at = place inside.items.next c.in_ok-spot.spot in
    let st = stored_at inside.file c.store_row.new.text in
    let same : map st (next_in inside.items) ≡ items_of inside.file inside.text inside.items.next = rw c.in_ok-entry.ensures.ok (items_kept inside.file inside.text c.args.bytes.now (next_in inside.items) c.self.invariant.0.next) in
    let before : AreNoted inside.file later (map st (next_in inside.items)) = rw same (noted_more inside.file inside.seen_hashes later _ c.store_row.ensures.grows c.self.invariant.2.next) in
    let one : ItemNoted inside.file later (st c.in_ok-entry.entry) = subst (ItemNoted inside.file later) (sym c.in_ok-entry.ensures.item) c.store_row.ensures.noted in
    let new : map st (next_in c.replace.new.self) ≡ set (map st (next_in inside.items)) at (st c.in_ok-entry.entry) = ap (map st) c.in_ok-replace.ensures.ok ∙ map-set st (next_in inside.items) at c.in_ok-entry.entry in
    let all = subst (λ (t : List ℕ). AreNoted inside.file later (map (stored_at inside.file t) (next_in c.replace.new.self))) c.in_ok-entry.ensures.ok (rw new (noted_set inside.file later (map st (next_in inside.items)) at (st c.in_ok-entry.entry) before one)) in
    let hashes = notes_edited inside.file inside.text c.args.bytes.now inside.added inside.seen_hashes later inside.items c.replace.new.self c.self.invariant.0 c.self.invariant.2 c.store_row.ensures.grows c.in_ok-replace.ensures.now all in
    (rw c.in_ok-entry.ensures.ok (kept_replaced inside.file inside.text c.args.bytes.now inside.added (place inside.items.next c.in_ok-spot.spot) c.in_ok-entry.entry inside.items c.replace.new.self c.self.invariant.0 c.in_ok-replace.ensures.now c.in_ok-replace.ensures.ok stored), λ e. absurd cc, rw c.in_ok-entry.ensures.ok hashes, c.clear.ensures inside.file _ _)

pub returns-clause-now : goal.returns-clause-now
returns-clause-now c =
    let inside = c.self.inside in
    rw (c.in_ok-replace.ensures.now, c.in_ok-entry.ensures.ok, ← c.self.view_is) (items_kept inside.file inside.text c.args.bytes.now (now_in inside.items) c.self.invariant.0.now)

pub returns-clause-answer : goal.returns-clause-answer
returns-clause-answer c =
    let inside = c.self.inside in
    let row = c.args.row.now in
    let bytes = c.args.bytes.now in
    let parts = inside.items.next in
    let spot = c.in_ok-spot.spot in
    let old = c.get-old.result in
    let items = items_of inside.file inside.text parts in
    let kept : AreKept inside.file items = subst (λ (l : FileLists). AreKept l.file l.next) (sym c.self.view_is) c.requires.kept in
    let found = finds_spot (Ok spot) inside.file row inside.text c.search_row-search.result parts (rw (← c.as_slice.ensures) c.search_row-search.ensures) c.in_ok-spot.ensures in
    let st = stored_at inside.file c.store_row.new.text in
    let items_next = map st (next_in c.replace.new.self) in
    let same : map st (next_in inside.items) ≡ items = rw c.in_ok-entry.ensures.ok (items_kept inside.file inside.text bytes (next_in inside.items) c.self.invariant.0.next) in
    let new : items_next ≡ set items (place parts spot) (item_of_row row bytes (stored_at inside.file inside.text old).ending) = ap (map st) c.in_ok-replace.ensures.ok ∙ map-set st (next_in inside.items) (place parts spot) c.in_ok-entry.entry ∙ rw (same, c.in_ok-entry.ensures.item) refl in
    let is : edited items (Change inside.file row bytes) ≡ Ok items_next = items_of_change inside.file inside.text parts spot old c.get-old.ensures row bytes items_next found kept new in
    let stored : IsStored inside.file inside.text old = subst (IsStored inside.file inside.text) (sym c.get-old.ensures) (All-get_or (IsStored inside.file inside.text) (next_in inside.items) (place parts spot) old (place-lt parts spot found.0.0) c.self.invariant.0.next) in
    let some = has_row (same_key inside.file row) (stored_at inside.file inside.text old) (first_passes inside.file inside.text parts spot old c.get-old.ensures (same_key inside.file row) found.0) in
    let all : spans_with (same_key inside.file row) items ≡ spans_of (stored_at inside.file inside.text old).row = first_spans inside.file inside.text parts spot old c.get-old.ensures (same_key inside.file row) found.0 (same_key_once inside.file row) kept in
    let spans : c.in_ok-spans.spans ≡ spans_of (stored_at inside.file inside.text old).row ++ row_spans row = c.in_ok-spans.ensures inside.text stored some in
    rw (← c.self.view_is, is, all) (refl, spans)
