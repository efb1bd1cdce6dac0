use Rattle.std.proofs.Common.{refl, ◌∙◌, ◌+◌}
use Rattle.ucd_points.specs.PlainProofs.{on_err_from}
use Rattle.age_chain.proofs.ChainLemmas.{stands_longer}
use Rattle.age_chain.proofs.TableLemmas.{same_ages}
use Rattle.age_chain.proofs.chain.Chain.add.Goals as goal

pub returns-in_err-breaks-clause-err : goal.returns-in_err-breaks-clause-err
returns-in_err-breaks-clause-err c = on_err_from c.from_residual.result (rw (← c.self.view_is) (record { count = refl; last = refl; ages = same_ages _ _ c.in_err-breaks.ensures.now }))

pub returns-clause-chain : goal.returns-clause-chain
returns-clause-chain c =
    rw (← c.self.view_is) (λ releases stands. stands_longer c.self.inside.count (c.self.inside.count + 1) c.self.inside.last c.self.inside.ages c.commit.new.self c.args.bench releases refl
    (λ d lt. c.commit.ensures.committed d lt ∙ c.in_ok-breaks.ensures.next d lt) stands)
