-- The edges of spans that rise.
-- front_edges lo      the edges above 0 of a span that begins with lo, but the last one
-- gap end next        the edges of what lies between one span, which ends before `end`, and the next one; none if nothing does
use Rattle.std.specs.Prelude.{ℕ, List, [], ◌∷◌, cond, nat_lt}

abbrev pub front_edges : ℕ → List ℕ
front_edges lo = cond (nat_lt 0 lo) (lo ∷ []) []

abbrev pub gap : ℕ → ℕ → List ℕ
gap end next = cond (nat_lt end next) (end ∷ next ∷ []) []
