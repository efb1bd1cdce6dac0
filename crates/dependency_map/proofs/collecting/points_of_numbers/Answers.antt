use Rattle.std.proofs.Common.{◌∙◌, ℕ, ◌+◌, ◌<◌, Bool, List, [], ◌∷◌, ◌++◌, ap, sym, append_assoc, append-nil}
use Rattle.number_sets.specs.Keys.{has}
use Rattle.dependency_map.specs.Askers.{points_from}
use Rattle.dependency_map.proofs.PointLemmas.{points_none, points_next}
use Rattle.dependency_map.proofs.collecting.points_of_numbers.Goals as goal

pub points-preserved : goal.points-preserved
points-preserved c =
    let p : ℕ → Bool = has c.args.numbers.now in
    let x : ℕ = c.in-Some.c in
    let inside : x < 1114112 = rw c.number-from.ensures.value at c.number-from.ensures.bound in
    rw (c.in_ok-push.ensures.ok, c.number-from.ensures.value) (append_assoc c.points.points (x ∷ []) (points_from p (x + 1))
    ∙ ap (λ (t : List ℕ). c.points.points ++ t) (sym (points_next p c.points.from x inside c.in-Some.ensures.0 c.in-Some.ensures.1 c.in-Some.ensures.2))
    ∙ c.points.invariant)

pub returns : goal.returns
returns c =
    let p : ℕ → Bool = has c.args.numbers.now in
    sym (append-nil c.points.points) ∙ ap (λ (t : List ℕ). c.points.points ++ t) (sym (points_none p c.points.from c.in_default.ensures)) ∙ c.points.invariant
