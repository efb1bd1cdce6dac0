-- The order of combining marks. The Unicode Standard, section 3.11, D108 and D109; UAX #15, section 1.3.
--
-- class is the canonical combining class of each code point.
-- class_of F             the classes that the facts give
-- greater class y x      x has a greater class than y; with a class of y above 0, x and y are a reorderable pair (D108)
-- placed class y xs      y before the longest suffix of xs in which every class is greater; at the end where there is none
-- with_next class xs y   a list in order with one more point behind it: one of class 0 stays at the end, and nothing passes
--                        it; another one is placed
-- order_onto class done rest   the points of rest, one after the other, put behind those that are in order already
-- order class xs         D109: the list in canonical order
use Rattle.std.specs.Prelude.{ℕ, Bool, List, [], ◌∷◌, ◌++◌, nat_lt, ◌==◌, if◌then◌else◌}
use Rattle.std.specs.List.{list_all}
use Rattle.ucd_facts.specs.Facts.{Facts}

abbrev pub class_of : (ℕ → Facts) → ℕ → ℕ
class_of F c = (F c).class

abbrev pub greater : (ℕ → ℕ) → ℕ → ℕ → Bool
greater class y x = nat_lt (class y) (class x)

abbrev pub placed : (ℕ → ℕ) → ℕ → List ℕ → List ℕ
placed class y [] = y ∷ []
placed class y (x ∷ xs) = if list_all (greater class y) (x ∷ xs) then y ∷ x ∷ xs else x ∷ placed class y xs

abbrev pub with_next : (ℕ → ℕ) → List ℕ → ℕ → List ℕ
with_next class xs y = if class y == 0 then xs ++ y ∷ [] else placed class y xs

abbrev pub order_onto : (ℕ → ℕ) → List ℕ → List ℕ → List ℕ
order_onto class done [] = done
order_onto class done (y ∷ rest) = order_onto class (with_next class done y) rest

abbrev pub order : (ℕ → ℕ) → List ℕ → List ℕ
order class xs = order_onto class [] xs
