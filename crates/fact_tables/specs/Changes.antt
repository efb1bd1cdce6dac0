-- What an edit reaches, gone through point by point.
--
-- F and G are the facts of each code point now and next.
-- StaysOutside spans F G   outside of the spans F and G are the same
-- is_pair_of s y pair      the pair is s and y
-- is_reached pairs s y     s and y are one of the pairs
-- is_among numbers y       y is one of the numbers
-- first_differs F G s      whether s has class 0 is not the same in F and G
-- composes_either F G s y q   q is a primary composite with the mapping s y, by F or by G
-- IsTold F G Q q           q is among the questions Q, or F and G answer it alike
-- IsOnlyChanged F G Q      F and G answer none of the questions Q alike
-- Grows old new            what is asked and what is reached stays so
-- Gathers F G old new      so it is, and nothing but what is answered otherwise is asked besides
-- ReachesOwn F G pairs q    each pair that q composes, by F or by G, is reached
-- IsSeen index F G reached c   the question on the facts of c is told, the pairs of c are reached, and if whether c has class 0
--                          is not the same, those of each code point that is listed under c as the first member
-- IsDone index F G reached c   the facts of c are the same by F and by G, or c is seen
-- AreReached F G pairs     pairs that are not reached are composed by the same code points
use Rattle.std.specs.Prelude.{◌≡◌, ◌⊎◌, ℕ, Bool, true, false, ◌&&◌, ◌||◌, not, ◌==◌, List}
use Rattle.std.specs.Bool.{beq}
use Rattle.std.specs.List.{list_any}
use Rattle.ucd_facts.specs.Answers.{SameAnswer, is_asked}
use Rattle.ucd_points.specs.Bounds.{Bounds}
use Rattle.ucd_facts.specs.Composites.{composes}
use Rattle.ucd_facts.specs.Facts.{Facts, within}
use Rattle.ucd_facts.specs.declared.query.Query.{Query}
use Rattle.ucd_facts.specs.declared.query.Query.TheVariants.{Row}
use Rattle.fact_tables.specs.Index.{is_listed}
use Rattle.fact_tables.specs.declared.pair_index.PairIndex.{PairIndex}
use Rattle.fact_tables.specs.declared.reached.Reached.{Reached}

abbrev pub StaysOutside : List Bounds → (ℕ → Facts) → (ℕ → Facts) → Type 0
StaysOutside spans F G = (c : ℕ) → list_any (within c) spans ≡ false → F c ≡ G c

abbrev pub is_pair_of : ℕ → ℕ → ℕ × ℕ → Bool
is_pair_of s y pair = (pair.0 == s) && (pair.1 == y)

abbrev pub is_reached : List (ℕ × ℕ) → ℕ → ℕ → Bool
is_reached pairs s y = list_any (is_pair_of s y) pairs

abbrev pub is_among : List ℕ → ℕ → Bool
is_among numbers y = list_any (λ n. n == y) numbers

abbrev pub first_differs : (ℕ → Facts) → (ℕ → Facts) → ℕ → Bool
first_differs F G s = not (beq ((F s).class == 0) ((G s).class == 0))

abbrev pub composes_either : (ℕ → Facts) → (ℕ → Facts) → ℕ → ℕ → ℕ → Bool
composes_either F G s y q = composes F s y q || composes G s y q

abbrev pub IsTold : (ℕ → Facts) → (ℕ → Facts) → List Query → Query → Type 0
IsTold F G Q q = is_asked Q q ≡ false → SameAnswer F G q

abbrev pub IsOnlyChanged : (ℕ → Facts) → (ℕ → Facts) → List Query → Type 0
IsOnlyChanged F G Q = (q : Query) → is_asked Q q ≡ true → ¬ SameAnswer F G q

pub record Gathers (F G : ℕ → Facts) (old new : List Query) : Type 0 where
  pub asked : (q : Query) → is_asked old q ≡ true → is_asked new q ≡ true
  pub only : IsOnlyChanged F G old → IsOnlyChanged F G new

abbrev pub Grows : List (ℕ × ℕ) → List (ℕ × ℕ) → Type 0
Grows old new = (s y : ℕ) → is_reached old s y ≡ true → is_reached new s y ≡ true

abbrev pub ReachesOwn : (ℕ → Facts) → (ℕ → Facts) → List (ℕ × ℕ) → ℕ → Type 0
ReachesOwn F G pairs q = (s y : ℕ) → composes_either F G s y q ≡ true → is_reached pairs s y ≡ true

pub record IsSeen (index : PairIndex) (F G : ℕ → Facts) (reached : Reached) (c : ℕ) : Type 0 where
  pub row : IsTold F G reached.queries.items (Row c)
  pub own : ReachesOwn F G reached.pairs.items c
  pub first : first_differs F G c ≡ true → (y q : ℕ) → is_listed index c y q ≡ true → ReachesOwn F G reached.pairs.items q

abbrev pub IsDone : PairIndex → (ℕ → Facts) → (ℕ → Facts) → Reached → ℕ → Type 0
IsDone index F G reached c = (F c ≡ G c) ⊎ IsSeen index F G reached c

abbrev pub AreReached : (ℕ → Facts) → (ℕ → Facts) → List (ℕ × ℕ) → Type 0
AreReached F G pairs = (s y q : ℕ) → is_reached pairs s y ≡ false → composes F s y q ≡ composes G s y q
