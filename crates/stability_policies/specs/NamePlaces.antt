-- Where the names of rows stand.
-- has_name rows name p            the name is among those of the row at p; false past the last row
-- has_names rows names p          all of these names are
-- IsNext p start found            `found` is the least number at or above start that passes p; None if none passes
-- NoneFrom p start end            no number from start up to before the end passes p
-- IsStep p end start found        if `found` is None, no number from start on passes p. Else none below it does, and it is start and
--                                 passes, or it is above start and below the end
-- place_of found                  the place that a search ends at
-- is_at name p entry              the entry is of this name, and of the row at p
-- entry_cmp a b                   the order of entries, by the bytes of the name and then by the place of the row
-- AreNames rows entries           the entries are the names of the rows, in order
use Rattle.std.specs.Prelude.{◌≡◌, ◌⊎◌, ℕ, ◌<◌, ◌≤◌, Bool, true, false, ◌&&◌, ◌==◌, List, [], Option, MatchOption, Result, Ok, Err, IsSorted, bytes_eq}
use Rattle.std.specs.Borrow.{Bor}
use Rattle.std.specs.Cmp.Lexicographic.{slice_cmp}
use Rattle.std.specs.List.{list_all, list_any, slice_index_or}
use Rattle.std.specs.Ordering.{nat_cmp, ordering_then}
use Rattle.std.specs.declared.cmp.Ordering.{Ordering}

abbrev pub has_name : List (List (List ℕ)) → List ℕ → ℕ → Bool
has_name rows name p = list_any (bytes_eq name) (slice_index_or rows p [])

abbrev pub has_names : List (List (List ℕ)) → List (List ℕ) → ℕ → Bool
has_names rows names p = list_all (λ name. has_name rows name p) names

abbrev pub IsNext : (ℕ → Bool) → ℕ → Option ℕ → Type 0
IsNext p start found = MatchOption found ((k : ℕ) → start ≤ k → p k ≡ false)
    (λ place. (start ≤ place) × (p place ≡ true) × ((k : ℕ) → start ≤ k → k < place → p k ≡ false))

abbrev pub NoneFrom : (ℕ → Bool) → ℕ → ℕ → Type 0
NoneFrom p start end = (k : ℕ) → start ≤ k → k < end → p k ≡ false

abbrev pub IsStep : (ℕ → Bool) → ℕ → ℕ → Option ℕ → Type 0
IsStep p end start found = MatchOption found ((k : ℕ) → start ≤ k → p k ≡ false)
    (λ place. NoneFrom p start place × (((place ≡ start) × (p start ≡ true)) ⊎ ((start < place) × (place < end))))

abbrev pub place_of : Result ℕ ℕ → ℕ
place_of (Ok i) = i
place_of (Err i) = i

abbrev pub is_at : List ℕ → ℕ → Bor (List ℕ) × ℕ → Bool
is_at name p entry = bytes_eq name entry.0.now && entry.1 == p

abbrev pub entry_cmp : Bor (List ℕ) × ℕ → Bor (List ℕ) × ℕ → Ordering
entry_cmp a b = ordering_then (slice_cmp nat_cmp a.0.now b.0.now) (nat_cmp a.1 b.1)

pub record AreNames (rows : List (List (List ℕ))) (entries : List (Bor (List ℕ) × ℕ)) : Type 0 where
  pub whole : (name : List ℕ) (p : ℕ) → list_any (is_at name p) entries ≡ has_name rows name p
  pub ordered : IsSorted entry_cmp entries
