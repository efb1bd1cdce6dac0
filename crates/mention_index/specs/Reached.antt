-- Which code points the questions of a code point are about.
--
-- F is the facts of each code point.
-- members_of c G     the members of all mappings of the point c with the facts G, one mapping behind the other
-- about q            the code point that q is about: x of Row(x) and Second(x), and s of Pair(s, y)
-- Reached F c x      from c one comes to x by steps from a code point to a member of one of its mappings, and from the first member of
--                    a primary composite's mapping to the composite
-- AskedAreReached    a derivation asks about code points alone that are reached from its own
use Rattle.std.specs.Prelude.{◌≡◌, ℕ, true, List, flat_map}
use Rattle.ucd_facts.specs.CompositeLaws.{Composes}
use Rattle.ucd_facts.specs.Facts.{Facts}
use Rattle.ucd_model.specs.Sameness.{is_in}
use Rattle.ucd_model.specs.Validity.{mappings}
use Rattle.ucd_facts.specs.declared.query.Query.TheVariants.{Row, Pair, Second}
use Rattle.ucd_facts.specs.Answers.{is_asked}
use Rattle.ucd_facts.specs.declared.query.Query.{Query}
use Rattle.query_laws.specs.Questions.{asked}

abbrev pub members_of : ℕ → Facts → List ℕ
members_of c G = flat_map (λ m. m) (mappings c G)

abbrev pub about : Query → ℕ
about (Row x) = x
about (Pair s y) = s
about (Second y) = y

pub data Reached (F : ℕ → Facts) (c : ℕ) : ℕ → Type 0 where
  itself : Reached F c c
  member : (d x : ℕ) → is_in (members_of d (F d)) x ≡ true → Reached F c d → Reached F c x
  composite : (s y q : ℕ) → Composes F s y q → Reached F c s → Reached F c q

abbrev pub AskedAreReached : Type 0
AskedAreReached = (F : ℕ → Facts) (c : ℕ) (q : Query) → is_asked (asked F c) q ≡ true → Reached F c (about q)
