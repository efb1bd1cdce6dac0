use Rattle.std.proofs.Common.{◌≡◌, ℕ, take}
use Rattle.std.specs.List.{list_any}
use Rattle.ucd_facts.specs.Facts.{flag_at}
use Rattle.ucd_facts.specs.declared.property.Flag.{Flag}
use Rattle.code_facts.specs.MarkRows.{is_flagged}
use Rattle.code_facts.proofs.mark_rows.flagged_of.Given as goal

-- the code points of the rows before this one
abbrev pub invariant-rows : goal.invariant-rows
invariant-rows l = (flag : Flag) (c : ℕ) → list_any (is_flagged flag c) l.flagged.items ≡ flag_at (take l.row-index l.rows) flag c
