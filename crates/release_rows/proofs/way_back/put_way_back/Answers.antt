use Rattle.std.proofs.Common.{◌+◌, List, length, map, ap, subst, arith}
use Rattle.part_list.specs.Parts.{next_in}
use Rattle.release_rows.specs.Back.{LeadsOn, turned}
use Rattle.release_rows.specs.FileItems.{FileItem}
use Rattle.release_rows.specs.StoredItems.{stored_at}
use Rattle.release_rows.proofs.Leading.{leads_on, place_more, place_within, turned_all}
use Rattle.release_rows.proofs.way_back.put_way_back.Goals as goal

pub overflow_add-at : goal.overflow_add-at
overflow_add-at c =
    let size = ap length c.part.ensures in
    let slots = c.part_count.ensures.now in
    let within = place_within c.args.items.now.now c.parts.slot c.parts.at (omega (arith, c.parts-test.true)) c.parts.invariant.at in
    let few = c.requires.few in
    omega arith

-- the patch leads on over one more part
pub parts-preserved : goal.parts-preserved
parts-preserved c =
    let size = ap length c.part.ensures in
    let slots = c.part_count.ensures.now in
    let more = place_more c.args.items.now.now c.parts.slot c.parts.at (omega (arith, c.parts-test.true)) c.parts.invariant.at in
    let st = stored_at c.args.file c.args.text.now in
    record {
      within = omega (arith, c.parts-test.true);
      at = omega arith;
      leads = leads_on c.args.patch.now c.parts.patch c.put_part.new.patch c.args.file (map st (next_in c.args.items.now)) (map st (turned c.args.items.now c.parts.slot)) (map st (turned c.args.items.now (c.parts.slot + 1))) c.parts.invariant.leads c.in_ok-put_part.ensures;
    }

pub returns : goal.returns
returns c =
    let now = c.part_count.ensures.now in
    let next = c.part_count.ensures.next in
    let st = stored_at c.args.file c.args.text.now in
    subst (λ (l : List FileItem). LeadsOn c.args.patch.now c.parts.patch c.args.file (map st (next_in c.args.items.now)) l)
    (ap (map st) (turned_all c.args.items.now c.parts.slot (omega (arith, c.parts-test.false)) (omega arith))) c.parts.invariant.leads
