use Rattle.std.proofs.Common.{◌≡◌, ◌+◌, drop}
use Rattle.std.specs.List.{position_or_len}
use Rattle.ucd_points.specs.Fields.{is_semicolon}
use Rattle.source_rows.proofs.fields.cut_at_near_semicolon.Given as goal

-- what is left gives what the whole gives
abbrev pub invariant-loop-i : goal.invariant-loop-i
invariant-loop-i l = l.i + position_or_len is_semicolon (drop l.i l.text) ≡ position_or_len is_semicolon l.text
