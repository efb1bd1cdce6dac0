use Rattle.std.proofs.Common.{ℕ, Bool, List, sym, subst}
use Rattle.number_sets.specs.Keys.{has}
use Rattle.number_sets.specs.Bits.{has_number}
use Rattle.mention_index.specs.Walks.{Going, by_keys}
use Rattle.mention_index.proofs.WalkSteps.{begins, goes}
use Rattle.mention_index.proofs.reaching.reach_all.Goals as goal

pub walk-init : goal.walk-init
walk-init c =
    let W : ℕ → Bool = has_number c.args.walked.now in
    let P : List ℕ = c.args.pending.items in
    subst (λ (reached : List ℕ). Going (by_keys (has c.args.steps.now)) W P W P reached) (sym c.new-reached.ensures) (begins (by_keys (has c.args.steps.now)) W P c.requires)

pub walk-preserved : goal.walk-preserved
walk-preserved c =
    goes (by_keys (has c.args.steps.now)) (has_number c.args.walked.now) c.args.pending.items (has_number c.walk.walked) (has_number c.reach_from.new.walked) c.walk.pending.items c.pop.new.self.items c.reach_from.new.pending.items c.walk.reached c.reach_from.new.reached c.in-Some.x
    c.in-Some.ensures.items c.walk.invariant c.reach_from.ensures.grows c.reach_from.ensures.only c.in_ok-reach_from.ensures.walked c.in_ok-reach_from.ensures.led c.in_ok-reach_from.ensures.reached
