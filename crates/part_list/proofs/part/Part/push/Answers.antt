use Rattle.part_list.proofs.OrderLemmas.{ordered_pushed, within_pushed}
use Rattle.part_list.proofs.part.Part.push.Goals as goal

pub invariant_of-self-2 : goal.invariant_of-self-2
invariant_of-self-2 g c =
    let goes_on = (rw c.as_slice.ensures at c.stays_ordered_with.ensures) in
    let unedited = (rw (← c.self.view_is) at c.requires) in (
      within_pushed c.self.inside.edit c.self.inside.kept c.push.new.self c.args.entry c.self.inside.reach c.with-self-inside.result unedited c.in_ok-push.ensures.ok c.with-self-inside.ensures.wider c.with-self-inside.ensures.entry c.self.invariant.0,
      ordered_pushed c.self.inside.edit c.self.inside.kept c.push.new.self c.args.entry c.self.inside.ordered c.stays_ordered_with.result unedited c.in_ok-push.ensures.ok c.self.invariant.1 goes_on,
    )
