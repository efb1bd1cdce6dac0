-- Code points that are derived again.
--
-- R is the record of each code point before, and G the facts of each code point after.
-- differs R G c            c has another record over G than that of R
-- AsksAnew G points A B    B gives what each of the points asks of G, and of every other code point what A gives
-- IsAskedAnew G c A B      B gives what c asks of G, and of every other code point what A gives
-- IsFound G c result       the result is the record of c over G and what c asks; or in its place c with the first rule that it
--                          breaks; no claim if memory ran out
-- IsPut r c s old new A B  c is put behind the others where its record s is another than r; B gives this record for c, or what A gives
--                          where s is r, and for every other code point what A gives
-- IsAgain R G points those S   each of the points has a record over G, which S gives; of every other code point S gives that of R; and
--                          those are the points whose records differ, in order
-- IsFirstBroken G points rule point   all points in front of this one have a record over G, and this one breaks the rule
-- StopsAt G points stop    the stop names the first of the points that has no record over G, with the first rule that it breaks; if
--                          memory ran out, nothing is claimed
use Rattle.std.specs.Prelude.{◌≡◌, ◌≢◌, ◌⊎◌, ℕ, ◌<◌, Bool, true, false, not, List, [], ◌∷◌, ◌++◌, Result, Ok, Err, filter, if◌then◌else◌, ⊤}
use Rattle.ucd_facts.specs.Facts.{Facts}
use Rattle.ucd_model.specs.Records.{Record, derived, kept_record, record_at}
use Rattle.ucd_model.specs.Sameness.{is_in, same_record}
use Rattle.ucd_model.specs.ValidityLaws.{HasRecord}
use Rattle.ucd_facts.specs.declared.form.Bad.{Bad as Rule}
use Rattle.ucd_facts.specs.declared.query.Query.{Query}
use Rattle.query_laws.specs.Questions.{asked}
use Rattle.query_laws.specs.Turns.{SameQueries}
use Rattle.point_queries.specs.declared.derivation.Derived.{Derived}
use Rattle.record_turns.specs.declared.again_stop.AgainStop.{AgainStop}
use Rattle.record_turns.specs.declared.again_stop.AgainStop.TheVariants.{Broken, Memory}

abbrev pub differs : (ℕ → Record) → (ℕ → Facts) → ℕ → Bool
differs R G c = not (same_record (R c) (record_at G c))

abbrev pub IsFound : (ℕ → Facts) → ℕ → Result Derived AgainStop → Type 0
IsFound G c (Ok found) = (derived G c ≡ Ok (kept_record found.value)) × SameQueries found.asked (asked G c)
IsFound G c (Err (Broken rule point)) = (point ≡ c) × (derived G c ≡ Err rule)
IsFound G c (Err Memory) = ⊤

pub record AsksAnew (G : ℕ → Facts) (points : List ℕ) (A B : ℕ → List Query) : Type 0 where
  pub anew : (c : ℕ) → c < 1114112 → is_in points c ≡ true → SameQueries (B c) (asked G c)
  pub others : (c : ℕ) → c < 1114112 → is_in points c ≡ false → B c ≡ A c

pub record IsAskedAnew (G : ℕ → Facts) (c : ℕ) (A B : ℕ → List Query) : Type 0 where
  pub here : c < 1114112 → SameQueries (B c) (asked G c)
  pub others : (d : ℕ) → d < 1114112 → d ≢ c → B d ≡ A d

pub record IsPut (r : Record) (c : ℕ) (s : Record) (old new : List ℕ) (A B : ℕ → Record) : Type 0 where
  pub inside : c < 1114112
  pub changed : new ≡ old ++ (if same_record r s then [] else (c ∷ []))
  pub here : (B c ≡ s) ⊎ ((r ≡ s) × (B c ≡ A c))
  pub others : (d : ℕ) → d < 1114112 → d ≢ c → B d ≡ A d

pub record IsAgain (R : ℕ → Record) (G : ℕ → Facts) (points those : List ℕ) (S : ℕ → Record) : Type 0 where
  pub has : (c : ℕ) → is_in points c ≡ true → HasRecord G c
  pub changed : those ≡ filter (differs R G) points
  pub anew : (c : ℕ) → c < 1114112 → is_in points c ≡ true → S c ≡ record_at G c
  pub others : (c : ℕ) → c < 1114112 → is_in points c ≡ false → S c ≡ R c

abbrev pub IsFirstBroken : (ℕ → Facts) → List ℕ → Rule → ℕ → Type 0
IsFirstBroken G points rule point =
    (front : List ℕ) × (behind : List ℕ) × (points ≡ front ++ point ∷ behind) × ((c : ℕ) → is_in front c ≡ true → HasRecord G c) × (derived G point ≡ Err rule)

abbrev pub StopsAt : (ℕ → Facts) → List ℕ → AgainStop → Type 0
StopsAt G points (Broken rule point) = IsFirstBroken G points rule point
StopsAt G points Memory = ⊤
