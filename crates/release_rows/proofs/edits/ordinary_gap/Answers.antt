use Rattle.std.proofs.Common.{◌≡◌, false, map, take, Some, None, sym, ap, subst, ◌∙◌}
use Rattle.std.proofs.lemmas.List.{take-map}
use Rattle.std.proofs.lemmas.List.Elements.{All-take}
use Rattle.part_list.specs.Parts.{next_in}
use Rattle.part_list.specs.Finds.{FirstAt, LastAt}
use Rattle.part_list.specs.SeenNumbers.{may_have}
use Rattle.release_rows.specs.Noted.{group_hash}
use Rattle.release_rows.specs.Searches.{Sought, entry_passes}
use Rattle.release_rows.specs.Leads.{NoneFollows}
use Rattle.release_rows.specs.StoredItems.{IsStored, stored_at}
use Rattle.release_rows.proofs.Leads.{none_behind}
use Rattle.release_rows.proofs.GapPlaces.{gap_behind, gap_front, gap_group, place_last, place_new}
use Rattle.release_rows.proofs.edits.ordinary_gap.Goals as goal

pub returns-in-Some-before : goal.returns-in-Some-before
returns-in-Some-before c row is plain =
    let follows = subst (λ (s : Sought). FirstAt (Some c.in-Some.spot) (entry_passes s) c.args.items.now.next) c.with.ensures c.in-Some.ensures in
    gap_behind c.args.search.now row c.args.items.now.next c.contents_have_keys.ensures is c.requires.each plain c.in-Some.spot c.in-Some-before.before follows c.in-Some-before.ensures

pub returns-in-None : goal.returns-in-None
returns-in-None c row is plain =
    let follows = subst (λ (s : Sought). FirstAt (Some c.in-Some.spot) (entry_passes s) c.args.items.now.next) c.with.ensures c.in-Some.ensures in
    gap_front c.args.search.now row c.args.items.now.next c.contents_have_keys.ensures is c.requires.each plain c.in-Some.spot follows c.in-None.ensures

pub returns-in-Some-last : goal.returns-in-Some-last
returns-in-Some-last c row is plain =
    let none = subst (λ (s : Sought). FirstAt None (entry_passes s) c.args.items.now.next) c.with.ensures c.in_default.ensures in
    let alike = subst (λ (s : Sought). LastAt (Some c.in-Some-last.spot) (entry_passes s) c.args.items.now.next) c.with-2.ensures c.in-Some-last.ensures in
    gap_group c.args.search.now row c.args.items.now.next c.contents_have_keys.ensures is c.requires.each plain c.in-Some-last.spot none alike

pub returns-then-not-may_have : goal.returns-then-not-may_have
returns-then-not-may_have c row is plain =
    let lacks : may_have c.args.seen_hashes.now (group_hash c.args.search.now.group) ≡ false = rw (← c.search.view_is) (ap (may_have c.args.seen_hashes.now) (sym c.group_hash.ensures) ∙ sym c.may_have.ensures ∙ c.if-not-may_have.true) in
    rw (place_new c.args.search.now row c.args.items.now.next c.contents_have_keys.ensures is c.requires.each c.args.seen_hashes.now plain lacks c.requires.noted) c.end_gap.ensures

pub returns : goal.returns
returns c row is plain =
    let none = subst (λ (s : Sought). FirstAt None (entry_passes s) c.args.items.now.next) c.with.ensures c.in_default.ensures in
    let other = subst (λ (s : Sought). LastAt None (entry_passes s) c.args.items.now.next) c.with-2.ensures c.in_default-last.ensures in
    rw (place_last c.args.search.now row c.args.items.now.next c.contents_have_keys.ensures is c.requires.each plain none other) c.end_gap-2.ensures

-- no entry that leads pass follows
pub first_behind-requires : goal.first_behind-requires
first_behind-requires c =
    let s = c.args.search.now in
    let sought = c.requires.sought in
    let st = stored_at s.file s.text in
    let entries = next_in c.args.items.now in
    let count = c.skippable_items.result in
    let none = subst (NoneFollows s.file sought.0) (take-map st count entries) (c.skippable_items.ensures sought.0 (map st entries) sought.1 c.requires.leads) in
    rw c.with.ensures (none_behind s sought.0 (take count entries) c.contents_have_keys.ensures sought.1 (All-take (IsStored s.file s.text) count entries c.requires.each) none)
