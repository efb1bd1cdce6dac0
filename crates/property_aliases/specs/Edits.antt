-- What stays of the rows that names are resolved by while files are edited.
-- AreSameBut edited old next   the rows of each file that tells names or values are the same of both, but of the files that were edited
-- told_by rows                 what names are resolved by, of these rows
-- HasSameNames a b             the values of both have the same names by the same numbers
-- AreKeptBut a edited rows     the names are those of rows of which only the edited files have others than these
use Rattle.std.specs.Prelude.{◌≡◌, false}
use Rattle.ucd_facts.specs.Facts.{Sources as Rows}
use Rattle.ucd_points.specs.declared.files.SourceFile.TheVariants.{PropList, Scripts, WordBreakProperty, PropertyAliases, PropertyValueAliases}
use Rattle.property_aliases.specs.Found.{AreAliasesOf}
use Rattle.property_aliases.specs.Numbers.{AreNumbersOf, names_in}
use Rattle.property_aliases.specs.Sources.{Sources, alias_rows, break_names, listed_names, script_names}
use Rattle.property_aliases.specs.declared.aliases.Aliases.{Aliases}
use Rattle.property_aliases.specs.declared.edited.Edited.{Edited}
use Rattle.property_aliases.specs.declared.value_numbers.ValueNumbers.{ValueNumbers}

pub record AreSameBut (edited : Edited) (old next : Rows) : Type 0 where
  pub listed : edited.listed ≡ false → old PropList ≡ next PropList
  pub scripts : edited.scripts ≡ false → old Scripts ≡ next Scripts
  pub breaks : edited.breaks ≡ false → old WordBreakProperty ≡ next WordBreakProperty
  pub properties : edited.aliases ≡ false → old PropertyAliases ≡ next PropertyAliases
  pub values : edited.aliases ≡ false → old PropertyValueAliases ≡ next PropertyValueAliases

abbrev pub told_by : Rows → Sources
told_by rows = record {
  properties = alias_rows (rows PropertyAliases);
  values = alias_rows (rows PropertyValueAliases);
  listed = listed_names (rows PropList);
  scripts = script_names (rows Scripts);
  breaks = break_names (rows WordBreakProperty);
}

pub record HasSameNames (a b : ValueNumbers) : Type 0 where
  pub listed : names_in a.listed.names ≡ names_in b.listed.names
  pub scripts : names_in a.scripts.names ≡ names_in b.scripts.names
  pub breaks : names_in a.breaks.names ≡ names_in b.breaks.names

pub record AreKeptBut (a : Aliases) (edited : Edited) (rows : Rows) : Type 0 where
  pub old : Rows
  pub meant : AreAliasesOf a (told_by old)
  pub numbers : AreNumbersOf a.numbers old
  pub same : AreSameBut edited old rows
