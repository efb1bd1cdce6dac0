-- Spans that are put together one by one.
--
-- is_in span c           there is a span, and c is in it
-- EndsBefore n span      the span ends before n, and a code point lies between
-- AreApart all           the spans ascend, and between any two of them is a code point that lies in none
-- BeginsUpTo span n      the span, if there is one, does not begin behind n
-- HoldsBack all last     the spans are apart, and end before the one that is held back; there are none if none is held back
use Rattle.std.specs.Prelude.{◌≡◌, ℕ, ◌+◌, ◌<◌, ◌≤◌, ⊤, Bool, false, List, [], Option, Some, None}
use Rattle.std.specs.List.{All, AllPairs}
use Rattle.ucd_points.specs.Bounds.{Bounds}
use Rattle.ucd_facts.specs.Facts.{within}

abbrev pub is_in : Option Bounds → ℕ → Bool
is_in (Some span) c = within c span
is_in None c = false

abbrev pub EndsBefore : ℕ → Bounds → Type 0
EndsBefore n span = span.hi + 1 < n

abbrev pub AreApart : List Bounds → Type 0
AreApart all = AllPairs (λ span next. EndsBefore next.lo span) all

abbrev pub BeginsUpTo : Option Bounds → ℕ → Type 0
BeginsUpTo (Some span) n = span.lo ≤ n
BeginsUpTo None n = ⊤

abbrev pub HoldsBack : List Bounds → Option Bounds → Type 0
HoldsBack all (Some last) = AreApart all × All (EndsBefore last.lo) all
HoldsBack all None = all ≡ []
