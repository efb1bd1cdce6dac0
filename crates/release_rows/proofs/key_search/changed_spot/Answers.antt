use Rattle.std.proofs.Common.{Some, None, sym, ◌∙◌}
use Rattle.release_rows.proofs.FoundRows.{another_any, key_any, key_place}
use Rattle.release_rows.proofs.key_search.changed_spot.Goals as goal

pub returns-in_default : goal.returns-in_default
returns-in_default c row is = key_any c.args.search.now row c.args.items.now.next c.contents_have_keys.ensures is c.requires.each c.with.result None c.with.ensures c.in_default.ensures

pub returns-then-is_some : goal.returns-then-is_some
returns-then-is_some c row is = (
  key_any c.args.search.now row c.args.items.now.next c.contents_have_keys.ensures is c.requires.each c.with.result (Some c.in-Some.spot) c.with.ensures c.in-Some.ensures,
  another_any c.args.search.now row c.args.items.now.next c.contents_have_keys.ensures is c.requires.each c.with-2.result c.first-2.result c.with-2.ensures c.first-2.ensures ∙ sym c.is_some.ensures ∙ c.if-is_some.true,
)

pub returns : goal.returns
returns c row is = (
  key_place c.args.search.now row c.args.items.now.next c.contents_have_keys.ensures is c.requires.each c.with.result c.in-Some.spot c.with.ensures c.in-Some.ensures,
  another_any c.args.search.now row c.args.items.now.next c.contents_have_keys.ensures is c.requires.each c.with-2.result c.first-2.result c.with-2.ensures c.first-2.ensures ∙ sym c.is_some.ensures ∙ c.if-is_some.false,
)
