-- The askers of a question as a reader of a list sees them.
-- is_in points c      c is among the points
-- AreThose p points   the points are the code points that pass p: all of them, no others, and each is below the next
-- AskersAreThose      the askers of a question are those that ask it, and the askers of questions those that ask one of them
use Rattle.std.specs.Prelude.{◌≡◌, ℕ, ◌<◌, Bool, true, List, ◌==◌}
use Rattle.std.specs.List.{list_any}
use Rattle.std.specs.List.Sorted.{IsStrictlyIncreasing}
use Rattle.ucd_facts.specs.declared.query.Query.{Query}
use Rattle.dependency_map.specs.Askers.{asks, asks_any, askers_of, askers_of_any}

abbrev pub is_in : List ℕ → ℕ → Bool
is_in points c = list_any (λ k. k == c) points

pub record AreThose (p : ℕ → Bool) (points : List ℕ) : Type 0 where
  pub all : (c : ℕ) → c < 1114112 → p c ≡ true → is_in points c ≡ true
  pub only : (c : ℕ) → is_in points c ≡ true → (c < 1114112) × (p c ≡ true)
  pub rising : IsStrictlyIncreasing points

abbrev pub AskersAreThose : Type 0
AskersAreThose = ((asked : ℕ → List Query) (q : Query) → AreThose (asks asked q) (askers_of asked q))
    × ((asked : ℕ → List Query) (Q : List Query) → AreThose (asks_any asked Q) (askers_of_any asked Q))
