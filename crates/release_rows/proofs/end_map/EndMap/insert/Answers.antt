use Rattle.release_rows.specs.Places.{extent_at}
use Rattle.release_rows.proofs.Apart.{breaks_none, still_apart, any_inserted, is_absent}
use Rattle.release_rows.proofs.end_map.EndMap.insert.Goals as goal

pub invariant_of-self-2 : goal.invariant_of-self-2
invariant_of-self-2 c =
    let free = breaks_none _ (extent_at c.args.place c.args.last) (rw c.self.view_is c.requires.apart) in
    still_apart c.self.inside.ends c.insert.new.self c.args.place c.args.last c.requires.ordered free c.self.invariant c.in_ok-insert.ensures.updates.0

pub returns-clause-ok : goal.returns-clause-ok
returns-clause-ok c =
    let free = breaks_none _ (extent_at c.args.place c.args.last) (rw c.self.view_is c.requires.apart) in
    λ p. rw (c.in_ok-insert.ensures.entries, ← c.self.view_is) (any_inserted p c.args.place c.args.last c.self.inside.ends.entries (is_absent c.args.place c.args.last _ free))
