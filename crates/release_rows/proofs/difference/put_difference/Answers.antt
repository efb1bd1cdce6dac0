use Rattle.std.proofs.Common.{List, map, ◌++◌, ap}
use Rattle.std.proofs.lemmas.List.{take_rest}
use Rattle.std.proofs.lemmas.Result.{on_ok_weaker}
use Rattle.release_rows.specs.FileItems.{FileItem}
use Rattle.release_rows.specs.StoredItems.{stored_at}
use Rattle.release_rows.proofs.Leading.{leads_nowhere, leads_trimmed, none_mapped, same_trimmed, trimmed}
use Rattle.release_rows.proofs.difference.put_difference.Goals as goal

-- the items that both begin with and those that both end with are all
pub returns-then-is_empty-2 : goal.returns-then-is_empty-2
returns-then-is_empty-2 c before behind here =
    let st = stored_at c.args.file c.args.text.now in
    let front = c.same_front-front.result in
    let ends = trimmed st c.args.now.now c.args.next.now _ _ front _ _ c.same_front-front.ensures.now (c.same_front-front.ensures.same c.args.file c.args.text.now) (take_rest c.args.now.now front) (take_rest c.args.next.now front) (c.same_end-end.ensures.same c.args.file c.args.text.now) in
    leads_nowhere c.args.patch.now c.args.file (before ++ (map st c.args.next.now ++ behind)) (before ++ (map st c.args.now.now ++ behind))
    (ap (λ (l : List FileItem). before ++ (l ++ behind)) (same_trimmed (map st c.args.now.now) (map st c.args.next.now) _ _ front ends
    (none_mapped st _ c.is_empty.result c.is_empty.ensures c.if-is_empty.true) (none_mapped st _ c.is_empty-then-is_empty.result c.is_empty-then-is_empty.ensures c.if-is_empty-2.true)))

pub returns : goal.returns
returns c = on_ok_weaker c.push.result (λ pushed before behind here.
    let st = stored_at c.args.file c.args.text.now in
    let front = c.same_front-front.result in
    let ends = trimmed st c.args.now.now c.args.next.now _ _ front _ _ c.same_front-front.ensures.now (c.same_front-front.ensures.same c.args.file c.args.text.now) (take_rest c.args.now.now front) (take_rest c.args.next.now front) (c.same_end-end.ensures.same c.args.file c.args.text.now) in
    leads_trimmed c.args.patch.now c.push.new.self c.in_ok-splice.splice c.args.file (map st c.args.now.now) (map st c.args.next.now) _ _ before behind c.args.at front ends c.in_ok-splice.ensures here pushed) c.push.ensures.ok
