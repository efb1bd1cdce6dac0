use Rattle.std.proofs.Common.{◌≡◌, List, map, true, false, ap, sym, ◌∙◌}
use Rattle.std.proofs.lemmas.List.Elements.{All-filter}
use Rattle.std.proofs.lemmas.Result.{IfOk-weaker}
use Rattle.part_list.specs.Parts.{next_in}
use Rattle.part_list.specs.declared.entry.Entry.{Entry}
use Rattle.source_rows.specs.KeyNames.{has_code}
use Rattle.release_rows.specs.FileItems.{rows_in}
use Rattle.release_rows.specs.Meetings.{entry_meets}
use Rattle.release_rows.specs.StoredItems.{stored_at, IsStored}
use Rattle.release_rows.specs.declared.stored_item.StoredItem.{StoredItem}
use Rattle.release_rows.proofs.MeetingRows.{rows_met, none_met, meets_alike}
use Rattle.release_rows.proofs.touching.next_rows_touching.Goals as goal

pub returns-then-not-has_code : goal.returns-then-not-has_code
returns-then-not-has_code c =
    let code : has_code c.args.file ≡ false = sym c.has_code.ensures ∙ c.if-not-has_code.true in
    c.new.ensures.items ∙ none_met c.args.file c.args.text.now c.args.spans.now (next_in c.args.items.now) c.rows_are_read.ensures c.possible_rows_are_readable.ensures c.requires code

pub passing_rows-requires : goal.passing_rows-requires
passing_rows-requires c = rw c.passing.ensures (All-filter (entry_meets c.in_ok-order.order) (IsStored c.args.file c.args.text.now) (next_in c.args.items.now) c.requires)

-- the rows of the entries that meet the spans are the rows that meet them
pub returns : goal.returns
returns c =
    let code : has_code c.args.file ≡ true = sym c.has_code.ensures ∙ c.if-not-has_code.false in
    let rows = rows_in (map (stored_at c.args.file c.args.text.now) (next_in c.args.items.now)) in
    let same =
    ap (λ (xs : List (Entry StoredItem)). rows_in (map (stored_at c.args.file c.args.text.now) xs)) c.passing.ensures
    ∙ rows_met c.args.file c.args.text.now c.in_ok-order.order (next_in c.args.items.now) c.rows_are_read.ensures c.possible_rows_are_readable.ensures c.requires code
    ∙ meets_alike c.in_ok-order.order c.args.spans.now c.in_ok-order.ensures rows in
    IfOk-weaker c.passing_rows.result _ _ (λ rows is. is ∙ same) c.passing_rows.ensures
