use Rattle.std.proofs.Common.{◌≡◌, ℕ, ◌<◌, ◌==◌, length, take, sym, ◌∙◌, arith}
use Rattle.std.proofs.lemmas.Bool.{true≢false}
use Rattle.std.proofs.lemmas.List.{take_all}
use Rattle.fact_tables.proofs.ChangeLemmas.{seconds_more}
use Rattle.fact_tables.proofs.changes.seconds_of.Goals as goal

pub pairs-init : goal.pairs-init
pairs-init c s y is = absurd (true≢false (sym is))

pub pairs-preserved : goal.pairs-preserved
pairs-preserved c s y is =
    let inside : c.pairs.pair-index < length c.args.pairs.now = omega arith in
    seconds_more c.args.pairs.now c.pairs.pair-index c.pair-item.result s y c.pairs.seconds.items c.push.new.self.items inside is (c.pairs.invariant s y)
    (rw (sym c.pair-item.is) c.in_ok-push.ensures.items)

pub returns-clause-among : goal.returns-clause-among
returns-clause-among c s y is =
    let all : take c.pairs.pair-index c.args.pairs.now ≡ c.args.pairs.now = take_all c.pairs.pair-index c.args.pairs.now (omega arith) in
    c.sort_and_dedup.ensures.same (λ (n : ℕ). n == y) ∙ c.pairs.invariant s y (rw all is)
