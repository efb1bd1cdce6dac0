-- Values that are copied where spans are.
--
-- with_values f lo hi g c   g from lo to hi, both of them in it, and f elsewhere
-- with_spans f spans g c    g where some span covers c, and f elsewhere
-- HasKeys listed m q        where the mapping m has two members, q is listed under them
-- IsListed listed t q       where the tables t let q compose the two members of its mapping, q is listed under them
use Rattle.std.specs.Prelude.{◌≡◌, ℕ, Bool, true, ◌&&◌, List, [], ◌∷◌, nat_le, if◌then◌else◌}
use Rattle.std.specs.List.{list_any}
use Rattle.ucd_points.specs.Bounds.{Bounds}
use Rattle.ucd_facts.specs.Facts.{within}
use Rattle.fact_tables.specs.Index.{is_candidate_word}
use Rattle.fact_tables.specs.RowTables.{word_in, rest_in}
use Rattle.fact_tables.specs.declared.row_tables.RowTables.{RowTables}

abbrev pub with_values : {V : Type 0} → (ℕ → V) → ℕ → ℕ → (ℕ → V) → ℕ → V
with_values f lo hi g c = if nat_le lo c && nat_le c hi then g c else f c

abbrev pub with_spans : {V : Type 0} → (ℕ → V) → List Bounds → (ℕ → V) → ℕ → V
with_spans f spans g c = if list_any (within c) spans then g c else f c

abbrev pub HasKeys : (ℕ → ℕ → ℕ → Bool) → List ℕ → ℕ → Type 0
HasKeys listed mapping q = (s y : ℕ) → mapping ≡ s ∷ y ∷ [] → listed s y q ≡ true

abbrev pub IsListed : (ℕ → ℕ → ℕ → Bool) → RowTables → ℕ → Type 0
IsListed listed t q = (s y : ℕ) → is_candidate_word (word_in t q) ≡ true → (rest_in t q).mapping ≡ s ∷ y ∷ [] → listed s y q ≡ true
