-- Rows as they stand in their lines.
-- value_in text, fold_in text, casing_in text   the row that stands in the text
-- row_in row                 the row that stands in a line of any file
-- valued_in row              the row that stands in a line of a file that gives values
-- has_values file            the rows of the file give values: PropList.txt, Scripts.txt, WordBreakProperty.txt
-- ValueAs result expected    the value that stands there, or the fault, is what was expected
-- ValuedAs result expected   the row that stands there, or the fault, is what was expected, of a file that gives values
-- RefAs result expected      the row that stands there, or the fault, is what was expected
-- NamesAs result expected    the names, or the fault, are what was expected, of a line of names
use Rattle.std.specs.Prelude.{ℕ, Bool, true, false, List, Result, Some}
use Rattle.ucd_points.specs.Answers.{AnswersBy}
use Rattle.ucd_points.specs.declared.files.SourceFile.{SourceFile}
use Rattle.ucd_points.specs.declared.files.SourceFile.TheVariants.{PropList, Scripts, WordBreakProperty}
use Rattle.ucd_facts.specs.declared.row.CasingRow.{CasingRow}
use Rattle.ucd_facts.specs.declared.row.FoldRow.{FoldRow}
use Rattle.ucd_facts.specs.declared.row.Row.{Row}
use Rattle.ucd_facts.specs.declared.row.Row.TheVariants.{Unit as DataLine, Value as ValueLine, Exclusion as ExclusionLine, Fold as FoldLine, Casing as CasingLine, Alias as AliasLine, Missing as MissingLine}
use Rattle.ucd_facts.specs.declared.row.ValueRow.{ValueRow}
use Rattle.source_rows.specs.DataFaults.{text_row}
use Rattle.source_rows.specs.declared.case_folding.FoldText.{FoldText}
use Rattle.source_rows.specs.declared.fault.RowFault.{RowFault}
use Rattle.source_rows.specs.declared.row_ref.RowRef.{RowRef}
use Rattle.source_rows.specs.declared.row_ref.RowRef.TheVariants.{Unit as DataRef, Value as ValueRef, Exclusion as ExclusionRef, Fold as FoldRef, Casing as CasingRef, Alias as AliasRef, Missing as MissingRef}
use Rattle.source_rows.specs.declared.special_casing.CasingText.{CasingText}
use Rattle.source_rows.specs.declared.values.ValueText.{ValueText}
use Rattle.source_rows.specs.declared.values.Valued.{Valued}
use Rattle.source_rows.specs.declared.values.Valued.TheVariants.{Given as GivenRef, Missing as MissingValue}

abbrev pub value_in : ValueText → ValueRow
value_in t = record { span = t.span; value = t.value.now }

abbrev pub fold_in : FoldText → FoldRow
fold_in t = record { code = t.code; status = t.status; mapping = t.mapping }

abbrev pub casing_in : CasingText → CasingRow
casing_in t = record { code = t.code; lower = t.lower; title = t.title; upper = t.upper; conditions = t.conditions }

abbrev pub row_in : RowRef → Row
row_in (DataRef text) = DataLine (text_row text)
row_in (ValueRef text) = ValueLine (value_in text)
row_in (ExclusionRef row) = ExclusionLine row
row_in (FoldRef text) = FoldLine (fold_in text)
row_in (CasingRef text) = CasingLine (casing_in text)
row_in (AliasRef names) = AliasLine (record { names = names })
row_in (MissingRef text) = MissingLine (value_in text)

abbrev pub valued_in : Valued → Row
valued_in (GivenRef text) = ValueLine (value_in text)
valued_in (MissingValue text) = MissingLine (value_in text)

abbrev pub has_values : SourceFile → Bool
has_values PropList = true
has_values Scripts = true
has_values WordBreakProperty = true
has_values _ = false

abbrev pub ValueAs : Result ValueText RowFault → Result ValueRow RowFault → Type 0
ValueAs result expected = AnswersBy value_in Some result expected

abbrev pub RefAs : Result RowRef RowFault → Result Row RowFault → Type 0
RefAs result expected = AnswersBy row_in Some result expected

abbrev pub ValuedAs : Result Valued RowFault → Result Row RowFault → Type 0
ValuedAs result expected = AnswersBy valued_in Some result expected

abbrev pub NamesAs : Result (List (List ℕ)) RowFault → Result Row RowFault → Type 0
NamesAs result expected = AnswersBy (λ names. AliasLine (record { names = names })) Some result expected
