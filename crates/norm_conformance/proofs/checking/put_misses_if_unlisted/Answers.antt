use Rattle.std.proofs.Common.{◌≡◌, [], inl, inr}
use Rattle.number_sets.specs.Keys.{has}
use Rattle.norm_conformance.specs.Misses.{misses_at}
use Rattle.norm_conformance.proofs.PointLemmas.{none_put, passed_over, plain_missed}
use Rattle.norm_conformance.proofs.checking.put_misses_if_unlisted.Goals as goal
use Rattle.norm_conformance.proofs.checking.put_misses_if_unlisted.Goals.{then-not-is_assigned-via-then-not-is_assigned, then-not-is_assigned-via-else-not-is_assigned+then-matches, in-Plain, in_default, then-not-is_assigned-via-else-not-is_assigned+else-matches+then-is_among}

pub returns-then-not-is_assigned : goal.returns-then-not-is_assigned
returns-then-not-is_assigned g c =
    let F = g.W.FactView.facts_of c.args.view.now in
    let listed = has c.args.listed.now in
    let none : misses_at F listed c.args.c ≡ [] = elim c.then-not-is_assigned.branch [
      | then-not-is_assigned-via-then-not-is_assigned w ↦ passed_over F listed c.args.c (inl (cc (c.is_assigned.ensures, w.if-not-is_assigned.true)))
      | then-not-is_assigned-via-else-not-is_assigned+then-matches w ↦ plain_missed F listed c.args.c (elim w.match-matches.branch [ in-Plain w' ↦ cc (w'.in-Plain.is, w.kind.ensures) | in_default w' ↦ absurd (cc (w'.matches-is, w.if-matches.true)) ])
      | then-not-is_assigned-via-else-not-is_assigned+else-matches+then-is_among w ↦ passed_over F listed c.args.c (inr (cc (w.is_among.ensures, w.if-is_among.true)))
    ] in
    none_put c.args.found.now (misses_at F listed c.args.c) none
