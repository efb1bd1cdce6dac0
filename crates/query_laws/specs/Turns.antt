-- From the facts of one release to those of the next one: which code points have to be derived again.
--
-- F is the facts of each code point before, and G the facts after. A gives what each code point is kept to ask.
-- SameQueries P Q          the same questions are in P and Q
-- KeepsAsked A F           what is kept of each code point is what its derivation asks of F
-- asks_one A Q c           c is kept to ask one of the questions Q
-- Collects A Q points      the points are just the code points that are kept to ask one of Q, in ascending order
-- IsDependant F G c        the derivation of c asks a question that F and G do not answer alike
-- AreDependants F G points   the points rise, and each is a code point that is a dependant
-- IsWithinDependants F G n   n is at most the number of dependants
-- IsTurn F G A Q points    before, all code points have their records, and what they ask is kept; Q are the questions whose
--                          answers change, and the points are those that ask one of them
-- OthersStay               in a turn each other code point has the same record, and asks the same
-- CollectedAreDependants   the points are just the dependants
-- CollectedAreCounted      and their number is at most that of the dependants
-- NextIsValid              if each of the points has its record after the turn, all code points have
-- NextIsBroken             the first of the points without one is the first of all code points without one
-- NextKeepsAsked           what is kept is right after the turn, where it is of the points, and is as it was of the others
use Rattle.std.specs.Prelude.{◌≡◌, ℕ, ◌<◌, ◌≤◌, Bool, true, false, ◌&&◌, List, length, nat_lt, Some, Err, ◌↔◌}
use Rattle.std.specs.List.{list_any}
use Rattle.std.specs.List.Sorted.{IsStrictlyIncreasing}
use Rattle.ucd_facts.specs.Facts.{Facts}
use Rattle.ucd_points.specs.Limits.{point_count}
use Rattle.ucd_model.specs.Records.{derived}
use Rattle.ucd_model.specs.Sameness.{is_in}
use Rattle.ucd_model.specs.Validity.{first_broken}
use Rattle.ucd_model.specs.ValidityLaws.{HasRecord, IsValid}
use Rattle.ucd_facts.specs.declared.form.Broken.{Broken}
use Rattle.ucd_facts.specs.Answers.{is_asked, SameAnswer, TellsChanges}
use Rattle.ucd_facts.specs.declared.query.Query.{Query}
use Rattle.query_laws.specs.Questions.{asked}

abbrev pub SameQueries : (P Q : List Query) → Type 0
SameQueries P Q = (q : Query) → is_asked P q ≡ is_asked Q q

abbrev pub KeepsAsked : (ℕ → List Query) → (ℕ → Facts) → Type 0
KeepsAsked A F = (c : ℕ) → c < point_count → SameQueries (A c) (asked F c)

abbrev pub asks_one : (ℕ → List Query) → List Query → ℕ → Bool
asks_one A Q c = list_any (is_asked (A c)) Q

pub record Collects (A : ℕ → List Query) (Q : List Query) (points : List ℕ) : Type 0 where
  pub rising : IsStrictlyIncreasing points
  pub members : (c : ℕ) → is_in points c ≡ (nat_lt c point_count && asks_one A Q c)

abbrev pub IsDependant : (F G : ℕ → Facts) → ℕ → Type 0
IsDependant F G c = (q : Query) × (is_asked (asked F c) q ≡ true) × (¬ SameAnswer F G q)

pub record AreDependants (F G : ℕ → Facts) (points : List ℕ) : Type 0 where
  pub rising : IsStrictlyIncreasing points
  pub inside : (c : ℕ) → is_in points c ≡ true → c < point_count
  pub each : (c : ℕ) → is_in points c ≡ true → IsDependant F G c

abbrev pub IsWithinDependants : (F G : ℕ → Facts) → ℕ → Type 0
IsWithinDependants F G n = (points : List ℕ) × AreDependants F G points × (n ≤ length points)

pub record IsTurn (F G : ℕ → Facts) (A : ℕ → List Query) (Q : List Query) (points : List ℕ) : Type 0 where
  pub valid : IsValid F
  pub kept : KeepsAsked A F
  pub changes : TellsChanges F G Q
  pub collected : Collects A Q points

abbrev pub OthersStay : Type 0
OthersStay = (F G : ℕ → Facts) (A : ℕ → List Query) (Q : List Query) (points : List ℕ) → IsTurn F G A Q points
    → (c : ℕ) → c < point_count → is_in points c ≡ false → (derived G c ≡ derived F c) × (asked G c ≡ asked F c)

abbrev pub CollectedAreDependants : Type 0
CollectedAreDependants = (F G : ℕ → Facts) (A : ℕ → List Query) (Q : List Query) (points : List ℕ) → IsTurn F G A Q points
    → (c : ℕ) → c < point_count → (is_in points c ≡ true) ↔ IsDependant F G c

abbrev pub CollectedAreCounted : Type 0
CollectedAreCounted = (F G : ℕ → Facts) (A : ℕ → List Query) (Q : List Query) (points : List ℕ) → IsTurn F G A Q points → IsWithinDependants F G (length points)

abbrev pub NextIsValid : Type 0
NextIsValid = (F G : ℕ → Facts) (A : ℕ → List Query) (Q : List Query) (points : List ℕ) → IsTurn F G A Q points
    → ((c : ℕ) → is_in points c ≡ true → HasRecord G c) → IsValid G

abbrev pub NextIsBroken : Type 0
NextIsBroken = (F G : ℕ → Facts) (A : ℕ → List Query) (Q : List Query) (points : List ℕ) → IsTurn F G A Q points
    → (b : Broken) → is_in points b.point ≡ true → derived G b.point ≡ Err b.rule
    → ((c : ℕ) → is_in points c ≡ true → c < b.point → HasRecord G c) → first_broken G ≡ Some b

abbrev pub NextKeepsAsked : Type 0
NextKeepsAsked = (F G : ℕ → Facts) (A B : ℕ → List Query) (Q : List Query) (points : List ℕ) → IsTurn F G A Q points
    → ((c : ℕ) → is_in points c ≡ true → SameQueries (B c) (asked G c))
    → ((c : ℕ) → is_in points c ≡ false → SameQueries (B c) (A c)) → KeepsAsked B G
