-- The ages of code points over a chain of releases. Age is that of UAX #44, section 5.14, DerivedAge.txt; the text is this
-- project's own.
-- first_with tests c        the least number of a test that c passes, counted from 1; None where it passes none
-- is_assigned release c     c is assigned by the rows of the release now
-- age releases c            the least number of a release in which c is assigned, counted from 1; None where there is none
-- last_of releases          the last of them; None where there is none
-- breaks_since last new     what a release breaks of the policies against the last one; nothing where there is none
-- age_label age             the number in decimal; None for no age
-- age_text releases         the one section `Age`, with the age of each code point; default none
-- age_of n                  the age that a number of the table stands for: None for 0
-- ages_of values c          that of c; None past the last code point
-- ChainState                how many releases a chain has, the last one, and the table of ages
-- ages_in chain c           the age of c
-- SameChain a b             the same count, last release and ages
-- StandsFor chain releases  these are the releases of the chain
use Rattle.std.specs.Prelude.{◌≡◌, ℕ, ◌+◌, Bool, List, [], ◌∷◌, length, map, ◌==◌, nat_lt, Option, Some, None, if◌then◌else◌, codes, decimal, option_map}
use Rattle.range_table.specs.RunTable.{values_now}
use Rattle.range_table.specs.declared.run_table.RunTable.{RunTable}
use Rattle.release_rows.specs.Releases.{ReleaseItems, rows_now}
use Rattle.ucd_points.specs.Limits.{point_count}
use Rattle.ucd_model.specs.DerivedFiles.{listed}
use Rattle.ucd_model.specs.DerivedText.{section_text}
use Rattle.ucd_facts.specs.Facts.{facts}
use Rattle.ucd_model.specs.Labels.{Label}
use Rattle.stability_policies.specs.Reports.{report}
use Rattle.stability_policies.specs.declared.breaks.Break.{Break}

abbrev pub first_with : List (ℕ → Bool) → ℕ → Option ℕ
first_with [] c = None
first_with (test ∷ tests) c = if test c then Some 1 else option_map (λ k. k + 1) (first_with tests c)

abbrev pub is_assigned : ReleaseItems → ℕ → Bool
is_assigned release c = (facts (rows_now release) c).assigned

abbrev pub age : List ReleaseItems → ℕ → Option ℕ
age releases c = first_with (map is_assigned releases) c

abbrev pub last_of : List ReleaseItems → Option ReleaseItems
last_of [] = None
last_of (release ∷ []) = Some release
last_of (_ ∷ release ∷ later) = last_of (release ∷ later)

abbrev pub breaks_since : Option ReleaseItems → ReleaseItems → List Break
breaks_since None new = []
breaks_since (Some old) new = report old new

-- ---- the text

abbrev pub age_label : Option ℕ → Label
age_label None = None
age_label (Some k) = listed (decimal k)

abbrev pub age_text : List ReleaseItems → List ℕ
age_text releases = section_text (codes "Age") point_count (λ c. age_label (age releases c))

-- ---- a chain

abbrev pub age_of : ℕ → Option ℕ
age_of n = if n == 0 then None else Some n

abbrev pub ages_of : (ℕ → ℕ) → ℕ → Option ℕ
ages_of values c = if nat_lt c point_count then age_of (values c) else None

pub record ChainState : Type 0 where
  pub count : ℕ
  pub last : Option ReleaseItems
  pub table : RunTable ℕ

abbrev pub ages_in : ChainState → ℕ → Option ℕ
ages_in chain = ages_of (values_now chain.table)

pub record SameChain (a b : ChainState) : Type 0 where
  pub count : a.count ≡ b.count
  pub last : a.last ≡ b.last
  pub ages : ages_in a ≡ ages_in b

pub record StandsFor (chain : ChainState) (releases : List ReleaseItems) : Type 0 where
  pub count : chain.count ≡ length releases
  pub last : chain.last ≡ last_of releases
  pub ages : (c : ℕ) → ages_in chain c ≡ age releases c
