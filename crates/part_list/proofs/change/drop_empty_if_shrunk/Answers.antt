use Rattle.std.proofs.Common.{◌≡◌, sym, subst, ◌∙◌, filter}
use Rattle.part_list.specs.PartValues.{has_entries, parts_now, parts_next}
use Rattle.part_list.proofs.FlatLemmas.{flat-kept_now, flat-kept_next, parts_now-committed, parts_next-committed}
use Rattle.part_list.proofs.GuideLemmas.{same_kept}
use Rattle.part_list.proofs.change.drop_empty_if_shrunk.Goals as goal

pub returns-then-any-clause-now : goal.returns-then-any-clause-now
returns-then-any-clause-now g c = rw c.drop_empty.ensures (flat-kept_now c.args.parts.now.items)

pub returns-then-any-clause-next : goal.returns-then-any-clause-next
returns-then-any-clause-next g c = rw c.drop_empty.ensures (flat-kept_next c.args.parts.now.items)

-- parts that are not edited have the same entries now and next
pub returns-then-any-clause-same : goal.returns-then-any-clause-same
returns-then-any-clause-same g c =
    rw c.drop_empty.ensures
    (subst (λ ps. parts_now (filter has_entries ps) ≡ parts_next (filter has_entries ps)) c.requires.settled (same_kept c.args.parts.now.items))

pub returns-else-some_shrank-clause-same : goal.returns-else-some_shrank-clause-same
returns-else-some_shrank-clause-same g c =
    let ps = c.args.parts.now.items in
    subst (λ qs. parts_now qs ≡ parts_next qs) c.requires.settled (parts_now-committed ps ∙ sym (parts_next-committed ps))
