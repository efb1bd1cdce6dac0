use Rattle.std.proofs.Common.{◌≡◌, false, sym, ◌∙◌}
use Rattle.source_rows.specs.Keys.{key_names, row_span}
use Rattle.part_list.specs.SeenNumbers.{may_have}
use Rattle.release_rows.specs.Finding.{items_of}
use Rattle.release_rows.specs.Noted.{key_hash}
use Rattle.release_rows.proofs.FirstOfKey.{no_key, no_overlap}
use Rattle.release_rows.proofs.FoundRows.{key_any, overlap_any}
use Rattle.release_rows.proofs.key_search.added_gap.Goals as goal

pub returns-then-is_surely_new_key : goal.returns-then-is_surely_new_key
returns-then-is_surely_new_key c row is =
    let sought = c.args.search.now in
    let items = items_of sought.file sought.text c.args.items.now.next in
    let lacks : may_have c.args.seen_hashes.now (key_hash sought.file (row_span row).lo (key_names sought.file row)) ≡ false = rw (← is.code, ← is.names) (c.is_surely_new_key.ensures c.if-is_surely_new_key.true) in
    (no_key sought.file c.args.seen_hashes.now row items lacks c.requires.noted, no_overlap sought.file c.args.seen_hashes.now row items lacks c.requires.noted, c.gap_for.ensures row is)

pub returns-then-is_some : goal.returns-then-is_some
returns-then-is_some c row is =
    key_any c.args.search.now row c.args.items.now.next c.contents_have_keys.ensures is c.requires.each c.with.result c.first.result c.with.ensures c.first.ensures ∙ sym c.is_some.ensures ∙ c.if-is_some.true

pub returns-then-is_some-2 : goal.returns-then-is_some-2
returns-then-is_some-2 c row is =
    let none = key_any c.args.search.now row c.args.items.now.next c.contents_have_keys.ensures is c.requires.each c.with.result c.first.result c.with.ensures c.first.ensures ∙ sym c.is_some.ensures ∙ c.if-is_some.false in
    (none, overlap_any c.args.search.now row c.args.items.now.next c.contents_have_keys.ensures is c.requires.each c.with-2.result c.first-2.result none c.with-2.ensures c.first-2.ensures ∙ sym c.is_some-2.ensures ∙ c.if-is_some-2.true)

pub returns : goal.returns
returns c row is =
    let none = key_any c.args.search.now row c.args.items.now.next c.contents_have_keys.ensures is c.requires.each c.with.result c.first.result c.with.ensures c.first.ensures ∙ sym c.is_some.ensures ∙ c.if-is_some.false in
    let free = overlap_any c.args.search.now row c.args.items.now.next c.contents_have_keys.ensures is c.requires.each c.with-2.result c.first-2.result none c.with-2.ensures c.first-2.ensures ∙ sym c.is_some-2.ensures ∙ c.if-is_some-2.false in
    (none, free, c.gap_for-2.ensures row is)
