use Rattle.std.proofs.lemmas.List.Elements.{All-rest}
use Rattle.release_rows.specs.StoredItems.{IsStored}
use Rattle.release_rows.proofs.Walks.{first_of, put_behind}
use Rattle.release_rows.proofs.join.joined_items.Goals as goal

pub put_item-requires : goal.put_item-requires
put_item-requires c =
    let stored = first_of (IsStored c.args.file c.args.text.now) c.items.items c.in-Some.entry c.next.new.self c.in-Some.ensures.steps c.items.invariant.each in
    stored.item

-- one more item is put behind those so far
pub items-preserved : goal.items-preserved
items-preserved c = record {
  each = All-rest (IsStored c.args.file c.args.text.now) c.in-Some.entry c.next.new.self c.items.items c.in-Some.ensures.steps c.items.invariant.each;
  so_far = put_behind c.args.file c.args.text.now c.items.items c.in-Some.entry c.next.new.self c.items.bytes c.put_item.new.into _ c.in-Some.ensures.steps c.in_ok-put_item.ensures c.items.invariant.so_far;
}
