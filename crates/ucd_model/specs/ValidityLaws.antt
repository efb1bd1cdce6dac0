-- The laws of a valid release, and of the first code point that breaks one of its rules.
--
-- F is the facts of each code point.
-- HasRecord F c      c has its record: it breaks no rule
-- IsValid F          each code point has its record
-- IsLeastBroken F b  b is the least code point that has no record, with the first rule that it breaks
-- IsChain F compat c ds   the code points ds are a chain of mappings from c on: the first is a member of the mapping of c that
--                    counts, and each other one a member of the mapping of the one before it
-- HasLesser F c      c is a primary composite, and a lesser code point is one with the same mapping
-- ValidIsUnbroken    a release is valid exactly where `first_broken` finds no code point
-- BrokenIsLeast      it finds b exactly where b is the least code point that has no record, with its first rule
-- ValidExpands       in a valid release each code point has its expansion of both kinds
-- EndlessHasChain    a code point has no expansion exactly where a chain of eight mappings begins at it
-- HiddenHasLesser    a code point is a hidden composite exactly where it has a lesser one with its mapping
-- ValidPairIsSingle  in a valid release two primary composites with one mapping are one
use Rattle.std.specs.Prelude.{◌≡◌, ℕ, ◌<◌, Bool, true, List, [], ◌∷◌, length, Some, None, Ok, Err, ◌↔◌, ⊤, Contains}
use Rattle.ucd_points.specs.Limits.{point_count}
use Rattle.ucd_facts.specs.Facts.{Facts}
use Rattle.ucd_facts.specs.Expansion.{counted, full, expansion}
use Rattle.ucd_facts.specs.CompositeLaws.{Composes}
use Rattle.ucd_model.specs.Records.{Record, derived}
use Rattle.ucd_model.specs.Validity.{is_hidden, first_broken}
use Rattle.ucd_facts.specs.declared.form.Broken.{Broken}

abbrev pub HasRecord : (ℕ → Facts) → ℕ → Type 0
HasRecord F c = (R : Record) × (derived F c ≡ Ok R)

abbrev pub IsValid : (ℕ → Facts) → Type 0
IsValid F = (c : ℕ) → c < point_count → HasRecord F c

pub record IsLeastBroken (F : ℕ → Facts) (b : Broken) : Type 0 where
  pub point : b.point < point_count
  pub rule : derived F b.point ≡ Err b.rule
  pub least : (c : ℕ) → c < b.point → HasRecord F c

abbrev pub IsChain : (ℕ → Facts) → Bool → ℕ → List ℕ → Type 0
IsChain F compat c [] = ⊤
IsChain F compat c (d ∷ ds) = Contains (counted F compat c) d × IsChain F compat d ds

abbrev pub HasLesser : (ℕ → Facts) → ℕ → Type 0
HasLesser F c = (s : ℕ) × (y : ℕ) × (q : ℕ) × Composes F s y c × Composes F s y q × (q < c)

abbrev pub ValidIsUnbroken : Type 0
ValidIsUnbroken = (F : ℕ → Facts) → IsValid F ↔ (first_broken F ≡ None)

abbrev pub BrokenIsLeast : Type 0
BrokenIsLeast = (F : ℕ → Facts) (b : Broken) → (first_broken F ≡ Some b) ↔ IsLeastBroken F b

abbrev pub ValidExpands : Type 0
ValidExpands = (F : ℕ → Facts) (compat : Bool) → IsValid F → (c : ℕ) → c < point_count → (points : List ℕ) × (expansion F compat c ≡ Ok points)

abbrev pub EndlessHasChain : Type 0
EndlessHasChain = (F : ℕ → Facts) (compat : Bool) (c : ℕ) → (full F compat c ≡ None) ↔ ((ds : List ℕ) × (length ds ≡ 8) × IsChain F compat c ds)

abbrev pub HiddenHasLesser : Type 0
HiddenHasLesser = (F : ℕ → Facts) (c : ℕ) → c < point_count → (is_hidden F c ≡ true) ↔ HasLesser F c

abbrev pub ValidPairIsSingle : Type 0
ValidPairIsSingle = (F : ℕ → Facts) → IsValid F → (s y q r : ℕ) → Composes F s y q → Composes F s y r → q ≡ r
