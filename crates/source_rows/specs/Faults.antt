-- The row that bytes stand for, or the first rule that they break. UAX #44, sections 4.2 and 5.3.
-- value_line file content row      the row of a line with these values: a missing row where the line is one, else an ordinary row
-- line_or_fault file content       of one line, by its file
-- lines_or_fault file front last   of the bytes before and behind the first LF: two lines of UnicodeData.txt; G03 where a LF is
--                                  behind, and in every other file
-- row_or_fault file bytes          of the bytes; bytes with a LF have G03, but for two lines of UnicodeData.txt of which the
--                                  first one is that of a range. One CR before that LF is no part of the line
-- fault_of stop                    the fault that the stop tells; None if memory ran out
-- ReadsAs result expected          a result is what was expected; no claim if memory ran out
use Rattle.std.specs.Prelude.{ℕ, List, Result, Ok, Err, if◌then◌else◌, Option, Some, None}
use Rattle.std.specs.List.{before_first, after_first}
use Rattle.ucd_points.specs.Answers.{AnswersBy}
use Rattle.ucd_points.specs.Lines.{is_lf, holds_line_feed, without_return}
use Rattle.ucd_points.specs.Fields.{fields}
use Rattle.ucd_points.specs.MissingLines.{is_missing}
pub use Rattle.ucd_points.specs.declared.files.SourceFile.{SourceFile}
use Rattle.ucd_points.specs.declared.files.SourceFile.TheVariants.{UnicodeData, PropList, Scripts, WordBreakProperty, CompositionExclusions, CaseFolding, SpecialCasing, PropertyAliases, PropertyValueAliases}
use Rattle.ucd_facts.specs.declared.row.ValueRow.{ValueRow}
pub use Rattle.ucd_facts.specs.declared.row.Row.{Row}
use Rattle.ucd_facts.specs.declared.row.Row.TheVariants.{Value as ValueLine, Missing as MissingLine}
use Rattle.source_rows.specs.DataFaults.{single_or_fault, pair_or_fault}
use Rattle.source_rows.specs.OtherFaults.{value_or_fault, exclusion_or_fault, fold_or_fault, casing_or_fault, alias_or_fault}
use Rattle.source_rows.specs.Steps.{and_then}
use Rattle.source_rows.specs.declared.fault.RowFault.{RowFault}
use Rattle.source_rows.specs.declared.fault.RowFault.TheVariants.{G03}
use Rattle.source_rows.specs.declared.fault.RowStop.{RowStop}
use Rattle.source_rows.specs.declared.fault.RowStop.TheVariants.{Fault, Memory}

abbrev pub value_line : SourceFile → List ℕ → ValueRow → Row
value_line file content row = if is_missing file content then MissingLine row else ValueLine row

abbrev pub line_or_fault : SourceFile → List ℕ → Result Row RowFault
line_or_fault UnicodeData content = single_or_fault (fields UnicodeData content)
line_or_fault PropList content = and_then (value_or_fault (fields PropList content)) (λ row. Ok (value_line PropList content row))
line_or_fault Scripts content = and_then (value_or_fault (fields Scripts content)) (λ row. Ok (value_line Scripts content row))
line_or_fault WordBreakProperty content = and_then (value_or_fault (fields WordBreakProperty content)) (λ row. Ok (value_line WordBreakProperty content row))
line_or_fault CompositionExclusions content = exclusion_or_fault (fields CompositionExclusions content)
line_or_fault CaseFolding content = fold_or_fault (fields CaseFolding content)
line_or_fault SpecialCasing content = casing_or_fault (fields SpecialCasing content)
line_or_fault PropertyAliases content = alias_or_fault 2 (fields PropertyAliases content)
line_or_fault PropertyValueAliases content = alias_or_fault 3 (fields PropertyValueAliases content)

abbrev pub lines_or_fault : SourceFile → List ℕ → List ℕ → Result Row RowFault
lines_or_fault UnicodeData front last = if holds_line_feed last then Err G03 else pair_or_fault (fields UnicodeData (without_return front)) (fields UnicodeData last)
lines_or_fault _ front last = Err G03

unfoldable pub row_or_fault : SourceFile → List ℕ → Result Row RowFault
row_or_fault file bytes = if holds_line_feed bytes then lines_or_fault file (before_first is_lf bytes) (after_first is_lf bytes) else line_or_fault file bytes

abbrev pub fault_of : RowStop → Option RowFault
fault_of (Fault fault) = Some fault
fault_of Memory = None

abbrev pub ReadsAs : Result Row RowStop → Result Row RowFault → Type 0
ReadsAs result expected = AnswersBy (λ row. row) fault_of result expected
