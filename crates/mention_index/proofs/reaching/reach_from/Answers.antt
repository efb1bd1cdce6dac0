use Rattle.std.proofs.Common.{◌≡◌, ◌<◌, ◌^◌, false, length, sym, ◌∙◌, arith}
use Rattle.number_sets.specs.Bits.{has_number}
use Rattle.mention_index.proofs.WalkLemmas.{left_less}
use Rattle.mention_index.proofs.reaching.reach_from.Goals as goal

pub returns-clause-left : goal.returns-clause-left
returns-clause-left c =
    let inside : c.args.x < 1114112 = rw c.number-number.ensures.value at c.number-number.ensures.bound in
    let pending = c.push_mentioning.new.pending in
    let none : has_number c.args.walked.now c.args.x ≡ false = rw (← c.number-number.ensures.value) (sym c.has.ensures ∙ c.if-has.false) in
    let small : length pending.items < 2 ^ 64 = omega (arith, pending.ok.0, pending.ok.1, pending.small) in
    let put = rw c.number-number.ensures.value at c.in_ok-insert.ensures.ok in
    left_less (has_number c.args.walked.now) (has_number c.insert.new.self) c.args.x put none c.args.pending.now.items pending.items inside small
