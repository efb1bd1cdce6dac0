use Rattle.std.proofs.Common.{◌<◌, length, sym, ◌∙◌, arith, append-nil}
use Rattle.part_list.proofs.FlatLemmas.{parts-cut}
use Rattle.part_list.proofs.change.split_at_half.Goals as goal

-- the part that is cut has the same entries with the one behind it
pub returns-then-is_ok-clause-now : goal.returns-then-is_ok-clause-now
returns-then-is_ok-clause-now g c =
    let ok = c.args.parts.now.ok in
    let part = c.requires.part in
    let slot : c.args.slot < length c.args.parts.now.items = omega arith in
    let items = rw (sym c.is_ok.ensures.value ∙ c.if-is_ok.true) at c.insert.ensures.items in
    parts-cut (λ p. p.now) c.args.parts.now.items c.insert.new.self.items c.args.slot c.args.behind c.index_mut.result.now c.truncate.new.self slot items
    c.index_mut.ensures.value (λ here. rw (c.truncate.ensures, c.requires.now) (append-nil _ ∙ here))

pub returns-then-is_ok-clause-next : goal.returns-then-is_ok-clause-next
returns-then-is_ok-clause-next g c =
    let ok = c.args.parts.now.ok in
    let part = c.requires.part in
    let slot : c.args.slot < length c.args.parts.now.items = omega arith in
    let items = rw (sym c.is_ok.ensures.value ∙ c.if-is_ok.true) at c.insert.ensures.items in
    parts-cut (λ p. p.next) c.args.parts.now.items c.insert.new.self.items c.args.slot c.args.behind c.index_mut.result.now c.truncate.new.self slot items
    c.index_mut.ensures.value (λ here. rw (c.truncate.ensures, here) c.requires.next)
