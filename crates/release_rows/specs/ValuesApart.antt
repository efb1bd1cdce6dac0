-- Rows that share no code point.
-- AreApart test rows     no two of the rows pass the test
-- AreValuesApart rows    no code point is covered by two rows with a value; two missing rows may cover it
-- ValuesAreApart         the rows that are kept of a file that has missing rows are so
use Rattle.std.specs.Prelude.{◌≡◌, ℕ, Bool, true, false, List, [], ◌∷◌}
use Rattle.std.specs.List.{list_any}
use Rattle.ucd_facts.specs.Values.{gives_some}
use Rattle.ucd_points.specs.MissingLines.{takes_missing}
use Rattle.release_rows.specs.FileItems.{FileItem, rows_in, SourceFile, Row}
use Rattle.release_rows.specs.Releases.{AreKept}

abbrev pub AreApart : (Row → Bool) → List Row → Type 0
AreApart test [] = Unit {0}
AreApart test (row ∷ rows) = (test row ≡ true → list_any test rows ≡ false) × AreApart test rows

abbrev pub AreValuesApart : List Row → Type 0
AreValuesApart rows = (c : ℕ) → AreApart (gives_some c) rows

abbrev pub ValuesAreApart : Type 0
ValuesAreApart = (file : SourceFile) → takes_missing file ≡ true → (items : List FileItem) → AreKept file items → AreValuesApart (rows_in items)
