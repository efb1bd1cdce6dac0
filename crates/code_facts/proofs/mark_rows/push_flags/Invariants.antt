use Rattle.std.proofs.Common.{◌≡◌, ◌||◌, ℕ, take}
use Rattle.std.specs.List.{list_any}
use Rattle.ucd_facts.specs.declared.property.Flag.{Flag}
use Rattle.code_facts.specs.MarkRows.{is_flagged, names_flag}
use Rattle.ucd_facts.specs.Enumerations.{flags}
use Rattle.code_facts.proofs.mark_rows.push_flags.Given as goal

-- those that stood there, and those of the flags before this one that have the name
abbrev pub invariant-flags : goal.invariant-flags
invariant-flags l = (flag : Flag) (c : ℕ) → list_any (is_flagged flag c) l.flagged.items ≡ (list_any (is_flagged flag c) l.initial.flagged.items || list_any (names_flag l.fn.value c l.fn.span flag) (take l.flag-index flags))
