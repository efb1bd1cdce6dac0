use Rattle.point_store.proofs.SlotSteps.{held_same, values_same}
use Rattle.point_store.proofs.slot_store.SlotStore.sweep.Goals as goal

pub invariant_of-self-clause-now_held : goal.invariant_of-self-clause-now_held
invariant_of-self-clause-now_held g c =
    held_same c.args.self.now.slots c.drop_unused.new.self (g.T.Table.now c.args.self.now.places) c.args.self.now.now_held
    (λ k lt. c.drop_unused.ensures (g.T.Table.now c.args.self.now.places k) (c.mark_used_next.ensures.others (g.T.Table.now c.args.self.now.places k) (c.mark_used_now.ensures.used k lt)))

pub invariant_of-self-clause-next_held : goal.invariant_of-self-clause-next_held
invariant_of-self-clause-next_held g c =
    held_same c.args.self.now.slots c.drop_unused.new.self (g.T.Table.next c.args.self.now.places) c.args.self.now.next_held
    (λ k lt. c.drop_unused.ensures (g.T.Table.next c.args.self.now.places k) (c.mark_used_next.ensures.used k lt))

pub returns-in-Ok-clause-now : goal.returns-in-Ok-clause-now
returns-in-Ok-clause-now g c =
    values_same c.args.self.now.slots c.drop_unused.new.self (g.T.Table.now c.args.self.now.places) c.args.self.now.now_held
    (λ k lt. c.drop_unused.ensures (g.T.Table.now c.args.self.now.places k) (c.mark_used_next.ensures.others (g.T.Table.now c.args.self.now.places k) (c.mark_used_now.ensures.used k lt)))

pub returns-in-Ok-clause-next : goal.returns-in-Ok-clause-next
returns-in-Ok-clause-next g c =
    values_same c.args.self.now.slots c.drop_unused.new.self (g.T.Table.next c.args.self.now.places) c.args.self.now.next_held
    (λ k lt. c.drop_unused.ensures (g.T.Table.next c.args.self.now.places k) (c.mark_used_next.ensures.used k lt))
