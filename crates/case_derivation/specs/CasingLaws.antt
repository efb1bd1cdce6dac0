-- The laws of case mappings. The Unicode Standard, section 3.13, toUppercase to toCasefold.
-- CasemappedIsAnyOfThree    Changes_When_Casemapped is Changes_When_Lowercased, Uppercased or Titlecased
-- LowerOfJoined       what is mapped member by member has no context: the lower case of two joined lists is theirs, joined
-- UpperOfJoined       so it is of the upper case
-- FoldOfJoined        and of the folding
-- TitleOfWord         the title of a word: what is before the first Cased member stays, that one has its title mapping, and the
--                     rest is in lower case
-- TitleWithoutCased   and all stays where no member is Cased
use Rattle.std.specs.Prelude.{◌≡◌, ℕ, true, false, ◌||◌, List, ◌∷◌, ◌++◌}
use Rattle.std.specs.List.{list_any}
use Rattle.ucd_model.specs.Casing.{lower, upper, title, fold, title_of, lowers, uppers, titles, casemaps, changes_when}
use Rattle.ucd_facts.specs.Facts.{Facts}
use Rattle.ucd_facts.specs.Predicates.{cased}

abbrev pub CasemappedIsAnyOfThree : Type 0
CasemappedIsAnyOfThree = (F : ℕ → Facts) (c : ℕ) → changes_when casemaps F c ≡ (changes_when lowers F c || (changes_when uppers F c || changes_when titles F c))

abbrev pub LowerOfJoined : Type 0
LowerOfJoined = (F : ℕ → Facts) (s t : List ℕ) → lower F (s ++ t) ≡ lower F s ++ lower F t

abbrev pub UpperOfJoined : Type 0
UpperOfJoined = (F : ℕ → Facts) (s t : List ℕ) → upper F (s ++ t) ≡ upper F s ++ upper F t

abbrev pub FoldOfJoined : Type 0
FoldOfJoined = (F : ℕ → Facts) (s t : List ℕ) → fold F (s ++ t) ≡ fold F s ++ fold F t

abbrev pub TitleOfWord : Type 0
TitleOfWord = (F : ℕ → Facts) (before rest : List ℕ) (c : ℕ) → list_any (λ x. cased (F x)) before ≡ false → cased (F c) ≡ true
    → title F (before ++ c ∷ rest) ≡ before ++ (title_of F c ++ lower F rest)

abbrev pub TitleWithoutCased : Type 0
TitleWithoutCased = (F : ℕ → Facts) (s : List ℕ) → list_any (λ x. cased (F x)) s ≡ false → title F s ≡ s
