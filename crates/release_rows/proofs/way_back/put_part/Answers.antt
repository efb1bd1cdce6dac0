use Rattle.std.proofs.Common.{◌+◌, length, map, drop, take, sym, ap, subst, ◌∙◌, arith, All}
use Rattle.std.proofs.lemmas.List.{length-map}
use Rattle.std.proofs.lemmas.Result.{on_ok_weaker}
use Rattle.part_list.specs.Parts.{flat}
use Rattle.release_rows.specs.StoredItems.{IsStored, stored_at}
use Rattle.release_rows.proofs.Leading.{all_in_part, leads_part, place_within}
use Rattle.release_rows.proofs.way_back.put_part.Goals as goal

pub put_difference-requires-clause-now : goal.put_difference-requires-clause-now
put_difference-requires-clause-now c =
    subst (All (IsStored c.args.file c.args.text.now)) (sym c.part-now.ensures) (all_in_part (IsStored c.args.file c.args.text.now) c.args.items.now.now c.args.slot c.requires.part c.requires.now)

pub put_difference-requires-clause-next : goal.put_difference-requires-clause-next
put_difference-requires-clause-next c =
    subst (All (IsStored c.args.file c.args.text.now)) (sym c.in-Some.ensures) (all_in_part (IsStored c.args.file c.args.text.now) c.args.items.now.next c.args.slot (omega (arith, c.requires.part, c.requires.both)) c.requires.next)

pub put_difference-requires-clause-fits : goal.put_difference-requires-clause-fits
put_difference-requires-clause-fits c =
    let size = ap length c.part-now.ensures in
    let within = place_within c.args.items.now.now c.args.slot c.args.at c.requires.part c.requires.at in
    let few = c.requires.few in
    omega arith

pub returns-in-Some : goal.returns-in-Some
returns-in-Some c =
    let st = stored_at c.args.file c.args.text.now in
    let front = map st (flat (take c.args.slot c.args.items.now.now)) in
    let rest = map st (flat (drop (c.args.slot + 1) c.args.items.now.next)) in
    on_ok_weaker c.put_difference.result (λ leads. leads_part st c.args.patch.now c.put_difference.new.patch c.args.file c.args.items.now c.args.slot _ _ c.requires.part c.requires.both c.part-now.ensures c.in-Some.ensures
    (leads front rest (c.requires.at ∙ sym (length-map (flat (take c.args.slot c.args.items.now.now)) st)))) c.put_difference.ensures
