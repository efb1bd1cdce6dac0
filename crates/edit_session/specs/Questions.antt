-- What is kept of the questions of all code points.
--
-- A and B give what each code point is kept to ask, and F its facts.
-- walked_at m x          x was walked: one went on from it in the mentions m, where there are any
-- KeepsWalked step walked A F   from a walked code point each step leads to a walked one; what the derivation of a walked one asks of the
--                        facts F is kept. Of each other one what plain ones ask is kept, and one comes to it by steps from each code
--                        point that its derivation asks about
-- Keeps m A F            so it is by the mentions m; where there are none, what plain ones ask is kept of each code point
-- KeepsNow F kept        what is kept now is that of the facts F
-- KeepsNext F kept       what is kept next is
-- AreStill kept          what is kept next is what is kept now
-- HasWalked m Q          each code point that one of the questions Q is about was walked
-- HasStepsBelow step n F   there are steps to each code point below n from those that it mentions
-- IsListed F c A B       B gives what the derivation of c asks of F, or c is plain, and of c and every other code point what A gives
-- AreListed F points A B   so it is of each of the points, and of every other code point B gives what A gives
use Rattle.std.specs.Prelude.{◌≡◌, ◌≢◌, ℕ, ◌<◌, ◌⊎◌, Bool, true, false, List, Option, Some, None}
use Rattle.range_table.specs.Values.{SameValues}
use Rattle.ucd_facts.specs.Facts.{Facts}
use Rattle.ucd_model.specs.Sameness.{is_in}
use Rattle.ucd_facts.specs.Uniform.{IsPlain}
use Rattle.ucd_facts.specs.Answers.{is_asked}
use Rattle.ucd_facts.specs.declared.query.Query.{Query}
use Rattle.mention_index.specs.Reached.{about}
use Rattle.query_laws.specs.Questions.{asked}
use Rattle.query_laws.specs.Turns.{SameQueries}
use Rattle.dependency_map.specs.Askers.{own_queries}
use Rattle.dependency_map.specs.Maps.{asked_at}
use Rattle.point_store.specs.SlotStore.{values}
use Rattle.mention_index.specs.Mentions.{is_walked, leads}
use Rattle.mention_index.specs.Steps.{HasStepsTo, IsClosed, Leads}
use Rattle.mention_index.specs.declared.mentions.Mentions.{Mentions}
use Rattle.paged_table.specs.Paged.{values_next, values_now}
use Rattle.edit_session.specs.declared.questions.Questions.{Questions}

abbrev pub walked_at : Option Mentions → ℕ → Bool
walked_at None x = false
walked_at (Some m) x = is_walked m x

pub record KeepsWalked (step : ℕ → ℕ → Bool) (walked : ℕ → Bool) (A : ℕ → List Query) (F : ℕ → Facts) : Type 0 where
  pub closed : IsClosed step walked
  pub known : (c : ℕ) → c < 1114112 → walked c ≡ true → SameQueries (A c) (asked F c)
  pub plain : (c : ℕ) → c < 1114112 → walked c ≡ false → A c ≡ own_queries c
  pub lead : (c : ℕ) → c < 1114112 → walked c ≡ false → (q : Query) → is_asked (asked F c) q ≡ true → Leads step c (about q)

abbrev pub Keeps : Option Mentions → (ℕ → List Query) → (ℕ → Facts) → Type 0
Keeps None A F = SameValues A own_queries
Keeps (Some m) A F = KeepsWalked (leads m) (is_walked m) A F

abbrev pub KeepsNow : (ℕ → Facts) → Questions → Type 0
KeepsNow F kept = Keeps kept.mentions (asked_at (values values_now) kept.map) F

abbrev pub KeepsNext : (ℕ → Facts) → Questions → Type 0
KeepsNext F kept = Keeps kept.mentions (asked_at (values values_next) kept.map) F

abbrev pub AreStill : Questions → Type 0
AreStill kept = SameValues (asked_at (values values_next) kept.map) (asked_at (values values_now) kept.map)

abbrev pub HasWalked : Option Mentions → List Query → Type 0
HasWalked m Q = (q : Query) → is_asked Q q ≡ true → walked_at m (about q) ≡ true

abbrev pub HasStepsBelow : (ℕ → ℕ → Bool) → ℕ → (ℕ → Facts) → Type 0
HasStepsBelow step n F = (c : ℕ) → c < n → HasStepsTo step F c

pub record IsListed (F : ℕ → Facts) (c : ℕ) (A B : ℕ → List Query) : Type 0 where
  pub here : SameQueries (B c) (asked F c) ⊎ (IsPlain c (F c) × (B c ≡ A c))
  pub others : (d : ℕ) → d < 1114112 → d ≢ c → B d ≡ A d

pub record AreListed (F : ℕ → Facts) (points : List ℕ) (A B : ℕ → List Query) : Type 0 where
  pub each : (c : ℕ) → c < 1114112 → is_in points c ≡ true → SameQueries (B c) (asked F c) ⊎ (IsPlain c (F c) × (B c ≡ A c))
  pub others : (c : ℕ) → c < 1114112 → is_in points c ≡ false → B c ≡ A c
