-- Places in their order, and the extents that a map from places to last code points holds.
-- names_of bs         the names that stand between the `;` of a text; no names for no bytes
-- names_in p          the names of a place
-- place_cmp           by the text of the names, and then by the code point
-- extent_at p last    from the place's code point to the last one
-- extent_of e         of an entry of the map
-- AreApart m          no two extents of the same names share a code point, and none ends before it begins
use Rattle.std.specs.Prelude.{◌≡◌, ℕ, ◌<◌, ◌≤◌, List, [], ◌∷◌, Some}
use Rattle.std.specs.List.{slice_split}
use Rattle.std.specs.Ordering.{ordering_then, nat_cmp}
use Rattle.std.specs.declared.cmp.Ordering.{Ordering}
use Rattle.std.specs.Cmp.Lexicographic.{slice_cmp}
use Rattle.std.specs.BTreeMap.{BTreeMap, get}
use Rattle.ucd_points.specs.Fields.{is_semicolon}
use Rattle.release_rows.specs.Extents.{Extent}
use Rattle.release_rows.specs.declared.sort_key.SortKey.{SortKey}

abbrev pub names_of : List ℕ → List (List ℕ)
names_of [] = []
names_of (b ∷ bs) = slice_split is_semicolon (b ∷ bs)

abbrev pub names_in : SortKey → List (List ℕ)
names_in p = names_of p.names.items

abbrev pub place_cmp : SortKey → SortKey → Ordering
place_cmp a b = ordering_then (slice_cmp nat_cmp a.names.items b.names.items) (nat_cmp a.code b.code)

abbrev pub extent_at : SortKey → ℕ → Extent
extent_at p last = record { names = names_in p; first = p.code; last = last }

abbrev pub extent_of : SortKey × ℕ → Extent
extent_of e = extent_at e.0 e.1

pub record AreApart (m : BTreeMap SortKey ℕ) : Type 0 where
  pub ordered : (a : SortKey) (x : ℕ) → get place_cmp m a ≡ Some x → a.code ≤ x
  pub apart : (a b : SortKey) (x y : ℕ) → get place_cmp m a ≡ Some x → get place_cmp m b ≡ Some y → names_in a ≡ names_in b → a.code < b.code → x < b.code
