-- Primary composites. The Unicode Standard, section 3.11, D110 to D114; UAX #15, section 5.
--
-- F is the facts of each code point.
-- is_canonical kind          the kind of the mapping is Canonical
-- first_has_class_zero F m   m has two members, and the first has class 0
-- primary_of F G             D114: a code point with the facts G is a primary composite: its mapping is canonical and has two
--                            members, it and the first member have class 0, and it is not excluded
-- primary F q                q is one
-- is_pair s y m              the mapping m has two members, s and y
-- is_second y m              the mapping m has two members, and the second is y
-- composes F s y q           q is a primary composite with the mapping s y
-- ends_with F y q            q is a primary composite whose mapping has y as its second member
-- pair_below n F s y         pair_of among the points below n
-- second_below n F y         second_of among the points below n
-- pair_of F s y              the least primary composite with the mapping s y; None where there is none
-- second_of F y              whether some primary composite's mapping has y as its second member
use Rattle.std.specs.Prelude.{ℕ, Bool, true, false, ◌&&◌, not, List, [], ◌∷◌, Option, ◌==◌, find}
use Rattle.std.specs.List.{list_any, range_with_len}
use Rattle.ucd_points.specs.Limits.{point_count}
use Rattle.ucd_facts.specs.Facts.{Facts, Kind, Canonical}

abbrev pub is_canonical : Kind → Bool
is_canonical Canonical = true
is_canonical _ = false

abbrev pub first_has_class_zero : (ℕ → Facts) → List ℕ → Bool
first_has_class_zero F (s ∷ y ∷ []) = (F s).class == 0
first_has_class_zero F _ = false

abbrev pub primary_of : (ℕ → Facts) → Facts → Bool
primary_of F G = is_canonical G.kind && ((G.class == 0) && (first_has_class_zero F G.mapping && not G.excluded))

abbrev pub primary : (ℕ → Facts) → ℕ → Bool
primary F q = primary_of F (F q)

abbrev pub is_pair : ℕ → ℕ → List ℕ → Bool
is_pair s y (a ∷ b ∷ []) = (a == s) && (b == y)
is_pair s y _ = false

abbrev pub is_second : ℕ → List ℕ → Bool
is_second y (a ∷ b ∷ []) = b == y
is_second y _ = false

abbrev pub composes : (ℕ → Facts) → ℕ → ℕ → ℕ → Bool
composes F s y q = primary F q && is_pair s y (F q).mapping

abbrev pub ends_with : (ℕ → Facts) → ℕ → ℕ → Bool
ends_with F y q = primary F q && is_second y (F q).mapping

abbrev pub pair_below : ℕ → (ℕ → Facts) → ℕ → ℕ → Option ℕ
pair_below n F s y = find (composes F s y) (range_with_len 0 n)

abbrev pub second_below : ℕ → (ℕ → Facts) → ℕ → Bool
second_below n F y = list_any (ends_with F y) (range_with_len 0 n)

unfoldable pub pair_of : (ℕ → Facts) → ℕ → ℕ → Option ℕ
pair_of F s y = pair_below point_count F s y

unfoldable pub second_of : (ℕ → Facts) → ℕ → Bool
second_of F y = second_below point_count F y
