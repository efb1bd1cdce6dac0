use Rattle.std.proofs.Common.{◌≡◌, ℕ, ◌++◌, [], ◌∷◌, false, Some, sym, ◌∙◌, arith}
use Rattle.ucd_facts.specs.Facts.{Facts}
use Rattle.point_queries.specs.KnownForms.{after_round, after_is_form, puts_from, round_covered, rounds_stop, rounds_more, rounds_end}
use Rattle.point_queries.proofs.rounds.put_rounds.Goals as goal

pub returns-in-None : goal.returns-in-None
returns-in-None g c =
    let F : ℕ → Facts = g.W.FactView.facts_of c.args.view.now in
    let round = c.in_ok-put_round.ensures in
    λ k covered.
    let each = round_covered c.args.folding k F c.rounds.list c.rounds.known c.as_slice.result.now c.rounds.asked.items c.put_round.new.asked.items c.in_ok-put_round.field-0.after c.rounds.alike c.in_ok-put_round.field-0.alike c.alike_only_if-round.result.alike c.as_slice.ensures round.asked round.next round.alike c.alike_only_if-round.ensures.alike covered in
    rounds_stop k F c.rounds.done c.rounds.known c.rounds.list (c.args.asked.now.items ++ puts_from k F 8 false (c.args.c ∷ [])) c.rounds.asked.items (c.rounds.invariant.0 k each.0) (omega arith) c.put_round.new.asked.items each.1 (sym c.in-None.is ∙ c.alike_only_if-round.ensures.after ∙ each.2)

pub rounds-preserved : goal.rounds-preserved
rounds-preserved g c =
    let F : ℕ → Facts = g.W.FactView.facts_of c.args.view.now in
    let round = c.in_ok-put_round.ensures in
    let next : Some c.in-Some.after ≡ c.in_ok-put_round.field-0.after = sym c.in-Some.is ∙ c.alike_only_if-round.ensures.after in
    let own : Some c.in-Some.after ≡ after_round c.args.folding F c.as_slice.result.now = next ∙ round.next in
    rw c.in-Some.is (
      λ k covered.
          let each = round_covered c.args.folding k F c.rounds.list c.rounds.known c.as_slice.result.now c.rounds.asked.items c.put_round.new.asked.items c.in_ok-put_round.field-0.after c.rounds.alike c.in_ok-put_round.field-0.alike c.alike_only_if-round.result.alike c.as_slice.ensures round.asked round.next round.alike c.alike_only_if-round.ensures.alike covered in
          rounds_more k F c.rounds.done c.rounds.known c.rounds.list (c.args.asked.now.items ++ puts_from k F 8 false (c.args.c ∷ [])) c.rounds.asked.items (c.rounds.invariant.0 k each.0) (omega arith) c.put_round.new.asked.items each.1 c.in-Some.after (next ∙ each.2),
      after_is_form c.args.folding F c.as_slice.result.now c.in-Some.after own,
    )

pub returns : goal.returns
returns g c =
    let F : ℕ → Facts = g.W.FactView.facts_of c.args.view.now in
    λ k covered. rounds_end k F c.rounds.done c.rounds.known c.rounds.list (c.args.asked.now.items ++ puts_from k F 8 false (c.args.c ∷ [])) c.rounds.asked.items (c.rounds.invariant.0 k covered) (omega arith)
