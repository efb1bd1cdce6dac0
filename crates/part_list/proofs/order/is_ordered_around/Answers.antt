use Rattle.std.proofs.Common.{arith, inl, inr, ◌-◌, ◌+◌, length}
use Rattle.std.proofs.lemmas.Bool.{cases_lt}
use Rattle.part_list.proofs.OrderLemmas.{ordered_wide, window_ordered}
use Rattle.part_list.proofs.order.is_ordered_around.Goals as goal

-- what is looked at reaches to the third entry or to the end
pub returns : goal.returns
returns g c = λ told.
    let xs = c.args.entries.now in
    let from = c.saturating_sub-from.result in
    let to = c.min-to.result in
    ordered_wide xs from to (c.args.at - 1) (c.args.at + 3) (window_ordered xs from to (omega arith) (omega arith) (c.is_ordered.ensures told)) (omega arith)
    (elim (cases_lt to (length xs)) [ inl less ↦ inl (omega arith) | inr all ↦ inr all ])
