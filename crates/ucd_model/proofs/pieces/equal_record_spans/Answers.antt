use Rattle.std.proofs.Common.{◌≡◌, ◌≤◌, ◌<◌, ◌+◌, ◌-◌, ◌∙◌, ℕ, List, ◌∷◌, [], ◌++◌, refl, sym, ap, subst, arith, inl, inr}
use Rattle.std.proofs.lemmas.Bool.{cases_lt}
use Rattle.ucd_points.specs.Limits.{point_count}
use Rattle.ucd_points.specs.Bounds.{Bounds}
use Rattle.ucd_model.specs.Records.{Record, kept_record}
use Rattle.ucd_model.specs.Cuts.{IsCut}
use Rattle.ucd_model.specs.CutLemmas.{cut_push}
use Rattle.ucd_model.proofs.pieces.equal_record_spans.Goals.{then-not-is_same+in_ok-push, else-not-is_same}
use Rattle.ucd_model.proofs.pieces.equal_record_spans.Goals as goal

-- the span of the numbers from `first` to before `number`, behind the pieces up to `first`
cut_more : (R : ℕ → Record) (first number : ℕ) (pieces : List Bounds) → first < number → IsCut R 0 first pieces → ((k : ℕ) → first ≤ k → k < number → R k ≡ R first)
    → IsCut R 0 number (pieces ++ (record { lo = first; hi = number - 1 }) ∷ [])
cut_more R first number pieces begun cut equal =
    let s : Bounds = record { lo = first; hi = number - 1 } in
    let ends : number - 1 + 1 ≡ number = omega arith in
    subst (λ (m : ℕ). IsCut R 0 m (pieces ++ s ∷ [])) ends (cut_push R 0 first pieces s cut refl (omega arith) (λ k low high. equal k low (omega arith)))

pub points-preserved : goal.points-preserved
points-preserved g c =
    let R : ℕ → Record = g.B.Records.record_of c.args.bench.now in
    let begun = c.points.invariant.begun in
    let next : kept_record c.record-next.result.now ≡ R c.points.number = rw c.at-in-points.ensures at c.record-next.ensures in
    elim c.if-not-is_same.branch [
      | then-not-is_same+in_ok-push w ↦ record {
        begun = omega arith;
        cut = rw (w.pieces-is, w.first-is, w.in_ok-push.ensures.ok, w.span.ensures) (cut_more R c.points.first c.points.number c.points.pieces begun c.points.invariant.cut c.points.invariant.equal);
        equal = λ k low high. let here : k ≡ c.if-not-is_same.first = omega arith in ap R here;
        shown = rw (w.shown-is, w.first-is) next;
      }
      | else-not-is_same w ↦
          let same : c.points.shown.now ≡ c.record-next.result.now = w.if-not-is_same.ensures.equal refl in
          let equal : R c.points.number ≡ R c.points.first = sym next ∙ ap kept_record (sym same) ∙ c.points.invariant.shown in
          record {
            begun = omega arith;
            cut = rw (w.pieces-is, w.first-is) c.points.invariant.cut;
            equal = λ k low high. elim (cases_lt k c.points.number) [
              | inl lt ↦ c.points.invariant.equal k (omega arith) lt ∙ ap R (sym w.first-is)
              | inr ge ↦ let here : k ≡ c.points.number = omega arith in ap R here ∙ equal ∙ ap R (sym w.first-is)
            ];
            shown = rw (w.shown-is, w.first-is) c.points.invariant.shown;
          }
    ]

pub returns : goal.returns
returns g c =
    let R : ℕ → Record = g.B.Records.record_of c.args.bench.now in
    let begun = c.points.invariant.begun in
    let last : c.points.number ≡ point_count = omega (arith, c.point_count-number-end.ensures.value) in
    let all : c.point_count.result ≡ point_count = c.point_count.ensures.value in
    rw (c.in_ok-push-2.ensures.ok, c.span-2.ensures, all) (cut_more R c.points.first point_count c.points.pieces (omega arith) c.points.invariant.cut (λ k low high. c.points.invariant.equal k low (omega arith)))
