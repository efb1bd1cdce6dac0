-- Questions about the facts of code points, and whether two releases answer them alike.
--
-- F and G are the facts of each code point, of two releases.
-- same_query q r        the questions are the same
-- is_asked Q q          q is one of the questions Q
-- SameAnswer F G q      F and G answer q alike: Row(x) is answered by the facts of x, Pair(s, y) by the primary composite of s
--                       and y, or that there is none, and Second(y) by whether y is the second member of a primary composite's
--                       mapping
-- Each P xs             P holds of each of the xs
-- TellsChanges F G Q    the questions Q are just those that F and G do not answer alike
-- QueriesAreTold        `same_query` tells whether two questions are the same
use Rattle.std.specs.Prelude.{◌≡◌, ℕ, Bool, true, false, ◌&&◌, ◌==◌, List, [], ◌∷◌, ⊤, Decides}
use Rattle.std.specs.List.{list_any}
use Rattle.ucd_facts.specs.Composites.{pair_of, second_of}
use Rattle.ucd_facts.specs.Facts.{Facts}
pub use Rattle.ucd_facts.specs.declared.query.Query.{Query}
use Rattle.ucd_facts.specs.declared.query.Query.TheVariants.{Row, Pair, Second}

abbrev pub same_query : Query → Query → Bool
same_query (Row x) (Row y) = x == y
same_query (Pair s x) (Pair t y) = (s == t) && (x == y)
same_query (Second x) (Second y) = x == y
same_query _ _ = false

abbrev pub is_asked : List Query → Query → Bool
is_asked Q q = list_any (same_query q) Q

abbrev pub SameAnswer : (F G : ℕ → Facts) → Query → Type 0
SameAnswer F G (Row x) = F x ≡ G x
SameAnswer F G (Pair s y) = pair_of F s y ≡ pair_of G s y
SameAnswer F G (Second y) = second_of F y ≡ second_of G y

abbrev pub Each : {X : Type 0} → (X → Type 0) → List X → Type 0
Each P [] = ⊤
Each P (x ∷ xs) = P x × Each P xs

pub record TellsChanges (F G : ℕ → Facts) (Q : List Query) : Type 0 where
  pub changed : (q : Query) → is_asked Q q ≡ true → ¬ SameAnswer F G q
  pub unchanged : (q : Query) → is_asked Q q ≡ false → SameAnswer F G q

abbrev pub QueriesAreTold : Type 0
QueriesAreTold = (q r : Query) → Decides (same_query q r) (q ≡ r)
