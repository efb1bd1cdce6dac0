-- Sets of code points, as contracts see them: the function that says of each number whether it is in.
-- nothing c            no number is in
-- between s c          whether c lies in a span
-- joined j a b c       whether c is in what j makes of two sets
-- outside a c          whether c is in the complement
-- span_edges s         the numbers above 0 at which membership in a span turns
-- member_label p c     the empty text for a member, None for another number
-- member_spans n p     the members below n as spans: maximal, so that no two of them touch, and ascending (Labels)
use Rattle.std.specs.Prelude.{ℕ, ◌+◌, Bool, false, not, ◌&&◌, cond, nat_le, nat_lt, List, [], ◌∷◌, map, Some, None}
use Rattle.ucd_points.specs.Bounds.{Bounds}
use Rattle.ucd_model.specs.Labels.{Label, label_spans}
use Rattle.unicodeset_eval.specs.Edges.{holds}
use Rattle.unicodeset_parser.specs.declared.expr.Join.{Join}

abbrev pub nothing : ℕ → Bool
nothing c = false

abbrev pub between : Bounds → ℕ → Bool
between s c = nat_le s.lo c && nat_le c s.hi

abbrev pub span_edges : Bounds → List ℕ
span_edges s = cond (nat_lt 0 s.lo) (s.lo ∷ (s.hi + 1) ∷ []) ((s.hi + 1) ∷ [])

abbrev pub joined : Join → (ℕ → Bool) → (ℕ → Bool) → ℕ → Bool
joined j a b c = holds j (a c) (b c)

abbrev pub outside : (ℕ → Bool) → ℕ → Bool
outside a c = not (a c)

abbrev pub member_label : (ℕ → Bool) → ℕ → Label
member_label p c = cond (p c) (Some []) None

abbrev pub member_spans : ℕ → (ℕ → Bool) → List Bounds
member_spans n p = map (λ s. s.bounds) (label_spans n (member_label p))
