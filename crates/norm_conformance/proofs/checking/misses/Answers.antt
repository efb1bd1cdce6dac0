use Rattle.std.proofs.Common.{◌≡◌, ◌++◌, ap, ◌∙◌, flat_map}
use Rattle.number_sets.specs.Keys.{has}
use Rattle.norm_conformance.specs.Misses.{is_listed, line_misses, unlisted_misses}
use Rattle.norm_conformance.proofs.PointLemmas.{misses_with, misses_without}
use Rattle.norm_conformance.proofs.checking.misses.Goals as goal
use Rattle.norm_conformance.proofs.checking.misses.Goals.{then-cases+in_ok-listed+in_ok-put_misses_of_unlisted_points, else-cases}

pub returns : goal.returns
returns g c =
    let F = g.W.FactView.facts_of c.args.view.now in
    let cases = c.args.cases.now in
    let of_cases : c.put_misses_of_cases.new.found ≡ flat_map (line_misses F) cases.list =
    c.in_ok-put_misses_of_cases.ensures ∙ ap (λ o. o ++ flat_map (line_misses F) c.as_slice.result.now) c.new-found.ensures ∙ ap (flat_map (line_misses F)) c.as_slice.ensures in
    elim c.if-cases.branch [
      | then-cases+in_ok-listed+in_ok-put_misses_of_unlisted_points w ↦
          let listed = has w.in_ok-listed.listed in
          misses_with F cases c.if-cases.found listed w.if-cases.true
          (λ k. w.in_ok-listed.ensures k ∙ ap (λ l. is_listed l k) w.as_slice-then-cases.ensures)
          (w.found-is ∙ w.in_ok-put_misses_of_unlisted_points.ensures ∙ ap (λ o. o ++ unlisted_misses F listed) of_cases)
      | else-cases w ↦ misses_without F cases c.if-cases.found w.if-cases.false (w.found-is ∙ of_cases)
    ]
