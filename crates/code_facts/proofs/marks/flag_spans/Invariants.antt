use Rattle.std.proofs.Common.{◌≡◌, ℕ, take}
use Rattle.std.specs.List.{list_any}
use Rattle.ucd_facts.specs.Facts.{within}
use Rattle.code_facts.specs.MarkRows.{is_flagged}
use Rattle.code_facts.proofs.marks.flag_spans.Given as goal

-- the spans of the rows before this one
abbrev pub invariant-flagged : goal.invariant-flagged
invariant-flagged l = (c : ℕ) → list_any (within c) l.spans.items ≡ list_any (is_flagged l.flag c) (take l.row-index l.flagged)
