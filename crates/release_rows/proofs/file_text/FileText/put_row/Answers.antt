use Rattle.std.proofs.Common.{rules, ◌≡◌, ℕ, Ok, Err, List, map, refl, sym, ap, subst, ◌∙◌, arith, All}
use Rattle.std.proofs.lemmas.List.{length-map}
use Rattle.part_list.specs.Parts.{now_in, next_in}
use Rattle.source_rows.specs.Faults.{row_or_fault}
use Rattle.release_rows.specs.FileItems.{FileItem, FileLists}
use Rattle.release_rows.specs.Finding.{items_of}
use Rattle.release_rows.specs.Noted.{AreNoted}
use Rattle.release_rows.specs.Leads.{GivesRow, KeepLeads}
use Rattle.release_rows.specs.Operations.{added_item, edited, place_in, put_in}
use Rattle.release_rows.specs.Searches.{IsSoughtRow}
use Rattle.release_rows.specs.StoredItems.{IsStored, content_at, stored_at}
use Rattle.release_rows.specs.declared.operation.Op.TheVariants.{Add}
use Rattle.release_rows.proofs.Arena.{all_still_stored, items_kept}
use Rattle.release_rows.proofs.Edited.{sought_own, finds_gap, items_of_addition, kept_edited, kept_grown, rule_of_addition}
use Rattle.release_rows.proofs.Leads.{gap_within, leads_grown, leads_kept, leads_of}
use Rattle.release_rows.proofs.Noting.{noted_more, noted_put, notes_edited, notes_grown, notes_more}
use Rattle.release_rows.proofs.file_text.FileText.put_row.Goals as goal

pub returns-in_err-gap-clause-answer : goal.returns-in_err-gap-clause-answer
returns-in_err-gap-clause-answer c =
    let inside = c.self.inside in
    let found = finds_gap (Err c.in_err-gap.field-0.0) inside.file c.args.row.now inside.text c.search_row-search.result inside.items.next (rw (← c.as_slice.ensures) c.search_row-search.ensures) c.in_err-gap.ensures in
    let rule : edited c.args.self.now.next (Add c.args.self.now.file c.args.row.now c.args.bytes.now) ≡ Err c.in_err-gap.field-0.0 = rw (← c.self.view_is) (rule_of_addition c.in_err-gap.field-0.0 inside.file c.args.row.now inside.text c.args.bytes.now inside.items.next found) in
    search (rules, rule)

pub added_gap-requires-clause-sought : goal.added_gap-requires-clause-sought
added_gap-requires-clause-sought c =
    let inside = c.self.inside in
    let found : IsSoughtRow inside.file c.args.row.now inside.text c.search_row-search.result = rw (← c.as_slice.ensures) c.search_row-search.ensures in
    (c.args.row.now, sought_own inside.file c.args.row.now inside.text c.search_row-search.result found)

pub added_gap-requires-clause-leads : goal.added_gap-requires-clause-leads
added_gap-requires-clause-leads c =
    let inside = c.self.inside in
    let found : IsSoughtRow inside.file c.args.row.now inside.text c.search_row-search.result = rw (← c.as_slice.ensures) c.search_row-search.ensures in
    rw (found.file_is, found.text_is) c.self.invariant.3

pub gap_place_for_leads-count-requires-clause-gap : goal.gap_place_for_leads-count-requires-clause-gap
gap_place_for_leads-count-requires-clause-gap c =
    let inside = c.self.inside in
    let found = finds_gap (Ok c.in_ok-gap.gap) inside.file c.args.row.now inside.text c.search_row-search.result inside.items.next (rw (← c.as_slice.ensures) c.search_row-search.ensures) c.in_ok-gap.ensures in
    (place_in inside.file c.args.row.now (items_of inside.file inside.text inside.items.next), found.2)

pub gap_place_for_leads-count-requires-clause-few : goal.gap_place_for_leads-count-requires-clause-few
gap_place_for_leads-count-requires-clause-few c =
    let few = c.self.invariant.0.few_next in
    let added = c.self.invariant.0.few_added in
    omega arith

pub invariant_of-self : goal.invariant_of-self
invariant_of-self c =
    let inside = c.self.inside in
    (rw c.in_err-entry.ensures.err c.self.invariant.0, λ e. absurd cc, rw c.in_err-entry.ensures.err (notes_more inside.file inside.text inside.seen_hashes c.store_row.new.seen_hashes inside.items c.store_row.ensures.grows c.self.invariant.2), rw c.in_err-entry.ensures.err c.self.invariant.3)

pub invariant_of-self-in_err-put_in : goal.invariant_of-self-in_err-put_in
invariant_of-self-in_err-put_in c =
    let inside = c.self.inside in
    (rw (c.in_err-put_in.ensures.err, c.in_ok-entry.ensures.ok) (kept_grown inside.file inside.text c.args.bytes.now inside.added inside.items c.self.invariant.0), λ e. absurd cc, rw (c.in_err-put_in.ensures.err, c.in_ok-entry.ensures.ok) (notes_grown inside.file inside.text c.args.bytes.now inside.added inside.seen_hashes c.store_row.new.seen_hashes inside.items c.self.invariant.0 c.self.invariant.2 c.store_row.ensures.grows), rw (c.in_err-put_in.ensures.err, c.in_ok-entry.ensures.ok) (leads_grown inside.file inside.text c.args.bytes.now inside.added inside.items inside.leads c.self.invariant.0 c.self.invariant.3))

pub returns-in_err-put_in-clause-now : goal.returns-in_err-put_in-clause-now
returns-in_err-put_in-clause-now c =
    let inside = c.self.inside in
    rw (c.in_err-put_in.ensures.err, c.in_ok-entry.ensures.ok, ← c.self.view_is) (items_kept inside.file inside.text c.args.bytes.now (now_in inside.items) c.self.invariant.0.now)

pub returns-in_err-put_in-clause-answer : goal.returns-in_err-put_in-clause-answer
returns-in_err-put_in-clause-answer c =
    let inside = c.self.inside in
    let same : map (stored_at inside.file c.store_row.new.text) (next_in c.put_in.new.items) ≡ c.args.self.now.next = rw (c.in_err-put_in.ensures.err, c.in_ok-entry.ensures.ok, ← c.self.view_is) (items_kept inside.file inside.text c.args.bytes.now (next_in inside.items) c.self.invariant.0.next) in
    search (rules, same)

pub invariant_of-self-2 : goal.invariant_of-self-2
invariant_of-self-2 c =
    let inside = c.self.inside in
    let few = c.self.invariant.0.few_next in
    let longer = c.in_ok-put_in.ensures.len in
    let more = c.in-Some.ensures in
    let stored : All (IsStored inside.file c.store_row.new.text) (next_in inside.items) = rw c.in_ok-entry.ensures.ok (all_still_stored inside.file inside.text c.args.bytes.now (next_in inside.items) c.self.invariant.0.next) in
    let next = c.in_ok-put_in.ensures.each inside.file c.store_row.new.text stored c.in_ok-entry.ensures.stored in
    let row = c.args.row.now in
    let bytes = c.args.bytes.now in
    let found = finds_gap (Ok c.in_ok-gap.gap) inside.file row inside.text c.search_row-search.result inside.items.next (rw (← c.as_slice.ensures) c.search_row-search.ensures) c.in_ok-gap.ensures in
    let items = items_of inside.file inside.text inside.items.next in
    let put = c.in_ok-put_in.ensures.ok inside.file c.store_row.new.text (place_in inside.file row items) found.2 in
    let kept : map (stored_at inside.file c.store_row.new.text) (next_in inside.items) ≡ items = rw c.in_ok-entry.ensures.ok (items_kept inside.file inside.text bytes (next_in inside.items) c.self.invariant.0.next) in
    let new : map (stored_at inside.file c.store_row.new.text) (next_in c.put_in.new.items) ≡ put_in items (place_in inside.file row items) (added_item row bytes) = put ∙ rw (kept, c.in_ok-entry.ensures.item) refl in
    let noted = noted_put inside.file c.store_row.new.seen_hashes items (place_in inside.file row items) (added_item row bytes) (noted_more inside.file inside.seen_hashes c.store_row.new.seen_hashes items c.store_row.ensures.grows c.self.invariant.2.next) c.store_row.ensures.noted in
    let all = subst (λ (t : List ℕ). AreNoted inside.file c.store_row.new.seen_hashes (map (stored_at inside.file t) (next_in c.put_in.new.items))) c.in_ok-entry.ensures.ok (rw new noted) in
    let second : IsSoughtRow inside.file row c.store_row.new.text c.search_row-search-2.result = rw (← c.as_slice-2.ensures) c.search_row-search-2.ensures in
    let old : KeepLeads inside.file c.store_row.new.text items inside.leads = rw c.in_ok-entry.ensures.ok (leads_kept inside.file inside.text bytes items inside.leads c.self.invariant.3) in
    let content : content_at c.store_row.new.text c.in_ok-entry.entry.item ≡ bytes = ap (λ (item : FileItem). item.content) c.in_ok-entry.ensures.item in
    let gives : GivesRow inside.file c.store_row.new.text c.in_ok-entry.entry.item row = record { fits = c.in_ok-entry.ensures.stored.item.fits; reads = rw content (subst (λ (l : FileLists). row_or_fault l.file bytes ≡ Ok row) (sym c.self.view_is) c.requires.reads) } in
    let place = c.gap_place_for_leads-count.ensures (place_in inside.file row items) found.2 in
    let within = gap_within c.in_ok-gap.gap (place_in inside.file row items) inside.items.next found.2 in
    let long = length-map (next_in inside.items) (stored_at inside.file inside.text) in
    let leads = leads_of inside.file row c.store_row.new.text c.search_row-search-2.result items (map (stored_at inside.file c.store_row.new.text) (next_in c.put_in.new.items)) (added_item row bytes) c.gap_place_for_leads-count.result c.in_ok-entry.entry.item inside.leads c.note_added_row.new.self second gives place (omega arith) old new refl c.note_added_row.ensures in
    let hashes = notes_edited inside.file inside.text bytes inside.added inside.seen_hashes c.store_row.new.seen_hashes inside.items c.put_in.new.items c.self.invariant.0 c.self.invariant.2 c.store_row.ensures.grows c.in_ok-put_in.ensures.now all in
    (rw c.in_ok-entry.ensures.ok (kept_edited inside.file inside.text c.args.bytes.now inside.added c.in-Some.added inside.items c.put_in.new.items c.self.invariant.0 c.in_ok-put_in.ensures.now (subst (λ (t : List ℕ). All (IsStored inside.file t) (next_in c.put_in.new.items)) c.in_ok-entry.ensures.ok next) (omega arith) (omega arith) (omega arith)), λ e. absurd cc, rw c.in_ok-entry.ensures.ok hashes, leads)

pub returns-clause-now : goal.returns-clause-now
returns-clause-now c =
    let inside = c.self.inside in
    rw (c.in_ok-put_in.ensures.now, c.in_ok-entry.ensures.ok, ← c.self.view_is) (items_kept inside.file inside.text c.args.bytes.now (now_in inside.items) c.self.invariant.0.now)

pub returns-clause-answer : goal.returns-clause-answer
returns-clause-answer c =
    let inside = c.self.inside in
    let row = c.args.row.now in
    let bytes = c.args.bytes.now in
    let found = finds_gap (Ok c.in_ok-gap.gap) inside.file row inside.text c.search_row-search.result inside.items.next (rw (← c.as_slice.ensures) c.search_row-search.ensures) c.in_ok-gap.ensures in
    let items = items_of inside.file inside.text inside.items.next in
    let put = c.in_ok-put_in.ensures.ok inside.file c.store_row.new.text (place_in inside.file row items) found.2 in
    let kept : map (stored_at inside.file c.store_row.new.text) (next_in inside.items) ≡ items = rw c.in_ok-entry.ensures.ok (items_kept inside.file inside.text bytes (next_in inside.items) c.self.invariant.0.next) in
    let new : map (stored_at inside.file c.store_row.new.text) (next_in c.put_in.new.items) ≡ put_in items (place_in inside.file row items) (added_item row bytes) = put ∙ rw (kept, c.in_ok-entry.ensures.item) refl in
    let items_next = map (stored_at inside.file c.store_row.new.text) (next_in c.put_in.new.items) in
    let is : edited items (Add inside.file row bytes) ≡ Ok items_next = items_of_addition c.in_ok-gap.gap inside.file row inside.text bytes inside.items.next items_next found new in
    rw (← c.self.view_is, is) (refl, refl)
