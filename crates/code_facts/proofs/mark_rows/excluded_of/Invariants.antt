use Rattle.std.proofs.Common.{◌≡◌, ℕ, take}
use Rattle.std.specs.List.{list_any}
use Rattle.ucd_facts.specs.Facts.{within, excluded_at}
use Rattle.code_facts.proofs.mark_rows.excluded_of.Given as goal

-- the spans of the rows before this one
abbrev pub invariant-rows : goal.invariant-rows
invariant-rows l = (c : ℕ) → list_any (within c) l.spans.items ≡ excluded_at (take l.row-index l.rows) c
