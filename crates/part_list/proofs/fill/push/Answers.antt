use Rattle.std.proofs.Common.{◌≡◌, ◌+◌, ◌-◌, length, ap, arith}
use Rattle.std.proofs.lemmas.Result.{on_ok_weaker}
use Rattle.part_list.proofs.FlatLemmas.{parts-push}
use Rattle.part_list.proofs.fill.push.Goals as goal

-- an entry at the end of the last part stands at the end of the list
pub returns-then-takes_more-clause-now : goal.returns-then-takes_more-clause-now
returns-then-takes_more-clause-now g c =
    let ok = c.args.parts.now.ok in
    let count = c.len-count.ensures in
    let some = c.if-count-gt0.true in
    let last : c.len-count.result - 1 + 1 ≡ length c.args.parts.now.items = omega arith in
    on_ok_weaker c.push.result
    (λ is. parts-push (λ p. p.now) c.args.parts.now.items (c.len-count.result - 1) c.index_mut.result.now c.push.new.self c.args.entry last c.index_mut.ensures.value (ap (λ p. p.now) is))
    c.push.ensures.ok

pub returns-then-takes_more-clause-next : goal.returns-then-takes_more-clause-next
returns-then-takes_more-clause-next g c =
    let ok = c.args.parts.now.ok in
    let count = c.len-count.ensures in
    let some = c.if-count-gt0.true in
    let last : c.len-count.result - 1 + 1 ≡ length c.args.parts.now.items = omega arith in
    on_ok_weaker c.push.result
    (λ is. parts-push (λ p. p.next) c.args.parts.now.items (c.len-count.result - 1) c.index_mut.result.now c.push.new.self c.args.entry last c.index_mut.ensures.value (ap (λ p. p.next) is))
    c.push.ensures.ok
