-- What the pair of two points is.
-- Joins F s y q   q is a code point with a canonical mapping, s y; q and s have class 0
-- pair_joins      the pair of two points, where there is one, joins them so
use Rattle.std.proofs.Common.{◌≡◌, ℕ, ◌<◌, true, ◌==◌, [], ◌∷◌, Option, Some, None, ap, ◌∙◌, sym, subst}
use Rattle.std.proofs.lemmas.Bool.{and_parts, eqb-true}
use Rattle.ucd_points.specs.Limits.{point_count}
use Rattle.ucd_facts.specs.Facts.{Facts}
use Rattle.ucd_facts.specs.Composites.{is_canonical, first_has_class_zero, pair_of}
use Rattle.ucd_facts.specs.CompositeLaws.{Composes, IsPair}
use Rattle.ucd_facts.specs.CompositeProofs.{pair_is_least}
use Rattle.ucd_model.specs.CanonicalOrder.{class_of}

pub record Joins (F : ℕ → Facts) (s y q : ℕ) : Type 0 where
  pub point : q < point_count
  pub class : class_of F q ≡ 0
  pub first : class_of F s ≡ 0
  pub canonical : is_canonical (F q).kind ≡ true
  pub mapping : (F q).mapping ≡ s ∷ y ∷ []

composes_joins : (F : ℕ → Facts) (s y q : ℕ) → Composes F s y q → Joins F s y q
composes_joins F s y q composes =
    let parts = and_parts (is_canonical (F q).kind) _ composes.primary in
    let inner = and_parts ((F q).class == 0) _ parts.1 in
    let last = and_parts (first_has_class_zero F (F q).mapping) _ inner.1 in
    let first : first_has_class_zero F (s ∷ y ∷ []) ≡ true = ap (first_has_class_zero F) (sym composes.mapping) ∙ last.0 in
    record { point = composes.point; class = eqb-true _ 0 inner.0; first = eqb-true _ 0 first; canonical = parts.0; mapping = composes.mapping }

pair_least : (F : ℕ → Facts) (s y q : ℕ) (r : Option ℕ) → r ≡ Some q → IsPair F s y r → Composes F s y q
pair_least F s y q None e is = cc
pair_least F s y q (Some p) e is = let same : p ≡ q = cc in subst (λ (n : ℕ). Composes F s y n) same is.0

pub pair_joins : (F : ℕ → Facts) (s y q : ℕ) → pair_of F s y ≡ Some q → Joins F s y q
pair_joins F s y q e = composes_joins F s y q (pair_least F s y q (pair_of F s y) e (pair_is_least F s y))
