use Rattle.std.proofs.Common.{◌≡◌, ◌<◌, ℕ, true, false, not, length, get_or, ap, sym, ◌∙◌, arith}
use Rattle.std.proofs.lemmas.List.Filters.{FiltersInPlace-more_no, FiltersInPlace-more_set}
use Rattle.ucd_facts.specs.Facts.{Facts}
use Rattle.ucd_facts.specs.Predicates.{default_ignorable}
use Rattle.fold_rounds.proofs.ignorable.drop_ignorable.Goals as goal
use Rattle.fold_rounds.proofs.ignorable.drop_ignorable.Goals.{then-not-default_ignorable, else-not-default_ignorable}

pub points-preserved : goal.points-preserved
points-preserved g c =
    let F : ℕ → Facts = g.W.FactView.facts_of c.args.view.now in
    let x : ℕ = c.index-as_slice-at.result in
    let lt : c.points.at < length c.points.s = omega (arith, c.len-at-end.ensures, c.points.invariant.long) in
    let read : x ≡ get_or c.points.s c.points.at x = cc in
    elim c.if-not-default_ignorable.branch [
      | then-not-default_ignorable w ↦
          let keeps : not (default_ignorable x (F x)) ≡ true = ap not (sym c.default_ignorable.ensures ∙ w.if-not-default_ignorable.true) in
          rw (w.s-is, w.kept-is, w.replace.ensures) (FiltersInPlace-more_set c.points.invariant lt keeps read)
      | else-not-default_ignorable w ↦
          let drops : not (default_ignorable x (F x)) ≡ false = ap not (sym c.default_ignorable.ensures ∙ w.if-not-default_ignorable.false) in
          rw (w.s-is, w.kept-is) (FiltersInPlace-more_no c.points.invariant lt drops read)
    ]
