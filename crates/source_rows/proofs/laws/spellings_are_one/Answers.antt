use Rattle.std.proofs.Common.{◌≡◌, ap, ◌∙◌, Result, Ok}
use Rattle.ucd_facts.specs.RowTexts.{row_text}
use Rattle.source_rows.specs.Faults.{row_or_fault, Row}
use Rattle.source_rows.specs.declared.fault.RowFault.{RowFault}
use Rattle.source_rows.proofs.Grammar.{rows_are_read}
use Rattle.source_rows.proofs.RoundTrips.{texts_read_back}
use Rattle.source_rows.proofs.laws.spellings_are_one.Goals as goal

one_row : (given : Result Row RowFault) (row other : Row) → given ≡ Ok row → given ≡ Ok other → row ≡ other
one_row given row other h k = cc

pub returns : goal.returns
returns c = (
  λ file bytes row other r s. one_row (row_or_fault file bytes) row other ((rows_are_read file bytes row).1 r) ((rows_are_read file bytes other).1 s),
  λ file row other ok also e. one_row (row_or_fault file (row_text file row)) row other (texts_read_back file row ok) (ap (row_or_fault file) e ∙ texts_read_back file other also),
)
