-- A turn from the facts of one release to those of the next one: what is kept of all code points, before it and after it.
--
-- F is the facts of each code point before, and G the facts after.
-- changed_points F G         the code points, ascending, whose records differ over F and G
-- AsksAlike A F Q            of the questions Q what is kept is right: each code point is kept to ask one of them exactly where its
--                            derivation asks one of F
-- IsReady F G R A N Q        before: all code points have a record over F, R is these records, Q are the questions that F and G do not
--                            answer alike, of these A is right, and N, what is next, is the same
-- IsRekept F G A B Q         what each code point asks of G is kept in B, where it is kept in A to ask one of Q; each other one asks of
--                            G what it asks of F, and the same is kept of it in B
-- IsTurned F G S A B Q points   after: all code points have a record over G, S is these records, B what is kept of what the code points
--                            ask, and the points are those whose records differ
-- StopsTurn G stop           the stop names the least code point that breaks a rule over G, with its first rule; no claim if memory
--                            ran out
-- CountsWithin F G old new   the counter rises by at most the number of code points that depend on the change
use Rattle.std.specs.Prelude.{◌≡◌, ℕ, ◌+◌, ◌<◌, ◌≤◌, true, false, not, List, filter, Some, ⊤}
use Rattle.std.specs.List.{range_with_len}
use Rattle.range_table.specs.Values.{SameValues}
use Rattle.ucd_facts.specs.Facts.{Facts}
use Rattle.ucd_points.specs.Limits.{point_count}
use Rattle.ucd_model.specs.Records.{Record, record_at}
use Rattle.ucd_model.specs.Sameness.{same_record}
use Rattle.ucd_model.specs.Validity.{first_broken}
use Rattle.ucd_model.specs.ValidityLaws.{IsValid}
use Rattle.ucd_facts.specs.Answers.{TellsChanges}
use Rattle.ucd_facts.specs.declared.query.Query.{Query}
use Rattle.query_laws.specs.Questions.{asked}
use Rattle.query_laws.specs.Turns.{IsWithinDependants, SameQueries, asks_one}
use Rattle.record_turns.specs.declared.again_stop.AgainStop.{AgainStop}
use Rattle.record_turns.specs.declared.again_stop.AgainStop.TheVariants.{Broken, Memory}

abbrev pub changed_points : (ℕ → Facts) → (ℕ → Facts) → List ℕ
changed_points F G = filter (λ c. not (same_record (record_at F c) (record_at G c))) (range_with_len 0 point_count)

abbrev pub AsksAlike : (ℕ → List Query) → (ℕ → Facts) → List Query → Type 0
AsksAlike A F Q = (c : ℕ) → c < point_count → asks_one A Q c ≡ asks_one (asked F) Q c

pub record IsReady (F G : ℕ → Facts) (R : ℕ → Record) (A N : ℕ → List Query) (Q : List Query) : Type 0 where
  pub valid : IsValid F
  pub records : (c : ℕ) → c < point_count → R c ≡ record_at F c
  pub alike : AsksAlike A F Q
  pub still : SameValues N A
  pub changes : TellsChanges F G Q

pub record IsRekept (F G : ℕ → Facts) (A B : ℕ → List Query) (Q : List Query) : Type 0 where
  pub anew : (c : ℕ) → c < point_count → asks_one A Q c ≡ true → SameQueries (B c) (asked G c)
  pub others : (c : ℕ) → c < point_count → asks_one A Q c ≡ false → (B c ≡ A c) × (asked G c ≡ asked F c)

pub record IsTurned (F G : ℕ → Facts) (S : ℕ → Record) (A B : ℕ → List Query) (Q : List Query) (points : List ℕ) : Type 0 where
  pub valid : IsValid G
  pub records : (c : ℕ) → c < point_count → S c ≡ record_at G c
  pub kept : IsRekept F G A B Q
  pub changed : points ≡ changed_points F G

abbrev pub StopsTurn : (ℕ → Facts) → AgainStop → Type 0
StopsTurn G (Broken rule point) = first_broken G ≡ Some (record { point = point; rule = rule })
StopsTurn G Memory = ⊤

abbrev pub CountsWithin : (ℕ → Facts) → (ℕ → Facts) → ℕ → ℕ → Type 0
CountsWithin F G old new = (n : ℕ) × IsWithinDependants F G n × (new ≤ old + n)
