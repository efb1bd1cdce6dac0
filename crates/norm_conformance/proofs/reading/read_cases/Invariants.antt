use Rattle.std.proofs.Common.{◌≡◌, ◌+◌, ◌≤◌, length}
use Rattle.norm_conformance.specs.Cases.{cases_from, cases_or_fault, numbered, onto}
use Rattle.norm_conformance.proofs.reading.read_cases.Given as goal

-- the cases so far, and behind them those of the lines that are left, are those of all lines
abbrev pub invariant-lines : goal.invariant-lines
invariant-lines l = record {
  whole : onto l.cases (cases_from l.part (numbered (l.line + 1) l.item-iterator)) ≡ cases_or_fault l.bytes;
  fits : l.line + length l.item-iterator ≤ length l.bytes;
}
