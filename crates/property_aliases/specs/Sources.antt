-- What names are resolved by: the rows of a release.
-- add_name names n      the names with one more behind them, unless it is there
-- in_order names        the names in order of first appearance, each once; a name is told by its bytes
-- alias_of row          the names of a row of an alias file, as the one item of a list; no item for other rows
-- value_row_of row      a row of PropList.txt, Scripts.txt or WordBreakProperty.txt, as the one item of a list; no item for
--                       other rows
-- alias_rows rows       the rows of an alias file, each as its list of names
-- missing_row_of row    a missing row of Scripts.txt or WordBreakProperty.txt, as the one item of a list; no item for other rows
-- valued_row_of row     either of both
-- value_rows rows       the rows of a span and a value that are no missing rows, in order
-- missing_rows rows     the missing rows, in order
-- value_names rows      the values of both, in the order of the file
-- numbered d rows       the values of rows by their numbers: d is number 0, the others follow in order of first appearance
-- script_names rows     the scripts by their numbers; break_names: the word breaks; listed_names: the names of PropList.txt, of
--                       which the first is number 0
-- unnumbered rows       rows without the numbers of their lines
-- Sources               the rows of PropertyAliases.txt and PropertyValueAliases.txt as lists of names, and the numbered
--                       names: those of PropList.txt, scripts with Unknown as number 0, word breaks with Other as number 0
-- sources_of release    those of a release now
use Rattle.std.specs.Prelude.{ℕ, if◌then◌else◌, List, [], ◌∷◌, ◌++◌, fold, map, bytes_eq}
use Rattle.std.specs.List.{list_any, flat_map}
use Rattle.ucd_facts.specs.Values.{default_script, default_word_break}
use Rattle.ucd_points.specs.declared.files.SourceFile.TheVariants.{PropList, Scripts, WordBreakProperty, PropertyAliases, PropertyValueAliases}
use Rattle.ucd_facts.specs.declared.row.Row.{Row}
use Rattle.ucd_facts.specs.declared.row.Row.TheVariants.{Value as ValueLine, Alias as AliasLine, Missing as MissingLine}
use Rattle.ucd_facts.specs.declared.row.ValueRow.{ValueRow}
use Rattle.release_rows.specs.Releases.{ReleaseItems, rows_now}

abbrev pub add_name : List (List ℕ) → List ℕ → List (List ℕ)
add_name names n = if list_any (bytes_eq n) names then names else names ++ n ∷ []

abbrev pub in_order : List (List ℕ) → List (List ℕ)
in_order names = fold add_name [] names

abbrev pub alias_of : Row → List (List (List ℕ))
alias_of (AliasLine row) = row.names ∷ []
alias_of _ = []

abbrev pub value_row_of : Row → List ValueRow
value_row_of (ValueLine row) = row ∷ []
value_row_of _ = []

abbrev pub missing_row_of : Row → List ValueRow
missing_row_of (MissingLine row) = row ∷ []
missing_row_of _ = []

abbrev pub valued_row_of : Row → List ValueRow
valued_row_of (ValueLine row) = row ∷ []
valued_row_of (MissingLine row) = row ∷ []
valued_row_of _ = []

abbrev pub alias_rows : List Row → List (List (List ℕ))
alias_rows rows = flat_map alias_of rows

abbrev pub value_rows : List Row → List ValueRow
value_rows rows = flat_map value_row_of rows

abbrev pub missing_rows : List Row → List ValueRow
missing_rows rows = flat_map missing_row_of rows

abbrev pub valued_rows : List Row → List ValueRow
valued_rows rows = flat_map valued_row_of rows

abbrev pub value_names : List Row → List (List ℕ)
value_names rows = map (λ r. r.value) (valued_rows rows)

abbrev pub numbered : List ℕ → List Row → List (List ℕ)
numbered default rows = in_order (default ∷ value_names rows)

abbrev pub script_names : List Row → List (List ℕ)
script_names rows = numbered default_script rows

abbrev pub break_names : List Row → List (List ℕ)
break_names rows = numbered default_word_break rows

abbrev pub listed_names : List Row → List (List ℕ)
listed_names rows = in_order (value_names rows)

abbrev pub unnumbered : List (ℕ × Row) → List Row
unnumbered rows = map (λ p. p.1) rows

pub record Sources : Type 0 where
  pub properties : List (List (List ℕ))
  pub values : List (List (List ℕ))
  pub listed : List (List ℕ)
  pub scripts : List (List ℕ)
  pub breaks : List (List ℕ)

abbrev pub sources_of : ReleaseItems → Sources
sources_of release = record {
  properties = alias_rows (rows_now release PropertyAliases);
  values = alias_rows (rows_now release PropertyValueAliases);
  listed = listed_names (rows_now release PropList);
  scripts = script_names (rows_now release Scripts);
  breaks = break_names (rows_now release WordBreakProperty);
}
