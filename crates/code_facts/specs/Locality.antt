-- The facts of a code point are those of the rows that speak of it.
--
-- rows_within t rows   the rows that pass the test t, file by file, in their order
-- FactsAreLocal        rows that do not speak of a code point may be left out: its facts stay
-- FactsStay            a code point of which the same rows speak, in the same order, has the same facts
-- gives_facts file     the rows of the file give facts; those of Scripts.txt and of the alias files do not
-- OthersGiveNone       facts are the same where the files that give some have the same rows
use Rattle.std.specs.Prelude.{◌≡◌, ℕ, Bool, true, false, filter}
use Rattle.ucd_facts.specs.Facts.{Sources, facts}
use Rattle.ucd_points.specs.declared.files.SourceFile.{SourceFile}
use Rattle.ucd_points.specs.declared.files.SourceFile.TheVariants.{Scripts, PropertyAliases, PropertyValueAliases}
use Rattle.ucd_facts.specs.declared.row.Row.{Row}
use Rattle.release_rows.specs.OperationLaws.{speaks_of}

abbrev pub rows_within : (Row → Bool) → Sources → Sources
rows_within t rows file = filter t (rows file)

abbrev pub FactsAreLocal : Type 0
FactsAreLocal = (t : Row → Bool) (rows : Sources) (c : ℕ) → ((row : Row) → speaks_of c row ≡ true → t row ≡ true) → facts rows c ≡ facts (rows_within t rows) c

abbrev pub FactsStay : Type 0
FactsStay = (rows next : Sources) (c : ℕ) → ((file : SourceFile) → filter (speaks_of c) (next file) ≡ filter (speaks_of c) (rows file)) → facts next c ≡ facts rows c

abbrev pub gives_facts : SourceFile → Bool
gives_facts Scripts = false
gives_facts PropertyAliases = false
gives_facts PropertyValueAliases = false
gives_facts _ = true

abbrev pub OthersGiveNone : Type 0
OthersGiveNone = (rows next : Sources) → ((file : SourceFile) → gives_facts file ≡ true → next file ≡ rows file) → facts next ≡ facts rows
