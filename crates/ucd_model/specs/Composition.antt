-- Canonical composition. The Unicode Standard, section 3.11, D115 and D117; UAX #15, section 1.3.
--
-- class is the canonical combining class of each code point, and pair the primary composite of two code points, or None.
-- A starter is a code point of class 0 (D107).
-- Split                     a list cut at a starter: what stands before it, the starter, and what stands after it
-- starter_behind class x xs cut   the last starter of the list x and xs, where cut is that of xs: the same, with x before it;
--                           where xs has none, x where its class is 0, else None
-- last_starter class xs     D117, its first rule: the list cut at its last starter; None where it has none
-- is_open class y after     not blocked (D115): every class in after, which stands behind the last starter, is less than that of y;
--                           where anything stands there, a y of class 0 is blocked
-- where_open class y cut    the cut, where y is not blocked by what stands after its starter; else None
-- reached class xs y        D116: the list cut at its last starter, where y behind the list is not blocked from it; else None
-- with_composite xs y cut q   D117, its second rule: the cut list with the composite q in the starter's place; without a composite
--                           xs with y at the end
-- with_point pair xs y cut   where the starter and y have a composite, it takes the starter's place, and y goes; else, and where
--                           no starter is reached, y stands at the end
-- composed_with class pair xs y   a composed list with one more point behind it
-- compose_onto class pair done rest   the points of rest, one after the other, put behind those that are composed already
-- compose class pair xs     D117: the list composed
use Rattle.std.specs.Prelude.{ℕ, Bool, List, [], ◌∷◌, ◌++◌, Option, Some, None, nat_lt, ◌==◌, if◌then◌else◌}
use Rattle.std.specs.List.{list_all}

pub record Split : Type 0 where
  pub before : List ℕ
  pub starter : ℕ
  pub after : List ℕ

abbrev pub starter_behind : (ℕ → ℕ) → ℕ → List ℕ → Option Split → Option Split
starter_behind class x xs (Some cut) = Some (record { before = x ∷ cut.before; starter = cut.starter; after = cut.after })
starter_behind class x xs None = if class x == 0 then Some (record { before = []; starter = x; after = xs }) else None

abbrev pub last_starter : (ℕ → ℕ) → List ℕ → Option Split
last_starter class [] = None
last_starter class (x ∷ xs) = starter_behind class x xs (last_starter class xs)

abbrev pub is_open : (ℕ → ℕ) → ℕ → List ℕ → Bool
is_open class y after = list_all (λ x. nat_lt (class x) (class y)) after

abbrev pub where_open : (ℕ → ℕ) → ℕ → Option Split → Option Split
where_open class y (Some cut) = if is_open class y cut.after then Some cut else None
where_open class y None = None

abbrev pub reached : (ℕ → ℕ) → List ℕ → ℕ → Option Split
reached class xs y = where_open class y (last_starter class xs)

abbrev pub with_composite : List ℕ → ℕ → Split → Option ℕ → List ℕ
with_composite xs y cut (Some q) = cut.before ++ q ∷ cut.after
with_composite xs y cut None = xs ++ y ∷ []

abbrev pub with_point : (ℕ → ℕ → Option ℕ) → List ℕ → ℕ → Option Split → List ℕ
with_point pair xs y (Some cut) = with_composite xs y cut (pair cut.starter y)
with_point pair xs y None = xs ++ y ∷ []

abbrev pub composed_with : (ℕ → ℕ) → (ℕ → ℕ → Option ℕ) → List ℕ → ℕ → List ℕ
composed_with class pair xs y = with_point pair xs y (reached class xs y)

abbrev pub compose_onto : (ℕ → ℕ) → (ℕ → ℕ → Option ℕ) → List ℕ → List ℕ → List ℕ
compose_onto class pair done [] = done
compose_onto class pair done (y ∷ rest) = compose_onto class pair (composed_with class pair done y) rest

abbrev pub compose : (ℕ → ℕ) → (ℕ → ℕ → Option ℕ) → List ℕ → List ℕ
compose class pair xs = compose_onto class pair [] xs
