-- Sets of numbers by their edges: the numbers at which membership turns. UTS #35, "Unicode Sets", calls such a list an
-- inversion list.
-- inside b edges c       whether c is in, where b says it of the numbers before the first edge
-- Rises low edges        the edges rise strictly, and the first is `low` or more
-- Edges                  a set: whether 0 is in it, and the edges above 0
-- has s c                whether c is in
-- holds join a b         whether what is in by a, and in by b, is in both together, in both at once, or in the first alone
use Rattle.std.specs.Prelude.{ℕ, ◌+◌, ◌≤◌, Bool, not, ◌&&◌, ◌||◌, cond, nat_lt, List, [], ◌∷◌}
use Rattle.unicodeset_parser.specs.declared.expr.Join.{Join}
use Rattle.unicodeset_parser.specs.declared.expr.Join.TheVariants.{Union, Meet, Minus}

abbrev pub inside : Bool → List ℕ → ℕ → Bool
inside b [] c = b
inside b (x ∷ xs) c = cond (nat_lt c x) b (inside (not b) xs c)

abbrev pub Rises : ℕ → List ℕ → Type 0
Rises low [] = Unit
Rises low (x ∷ xs) = (low ≤ x) × Rises (x + 1) xs

pub record Edges : Type 0 where
  pub has_zero : Bool
  pub edges : List ℕ

abbrev pub has : Edges → ℕ → Bool
has s c = inside s.has_zero s.edges c

abbrev pub holds : Join → Bool → Bool → Bool
holds Union a b = a || b
holds Meet a b = a && b
holds Minus a b = a && not b
