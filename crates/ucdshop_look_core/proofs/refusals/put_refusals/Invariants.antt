use Rattle.std.proofs.Common.{◌≡◌, ◌++◌, flat_map}
use Rattle.ucd_points.specs.Lines.{LineItem}
use Rattle.ucdshop_look_core.specs.Checks.{refusal_line, refusals}
use Rattle.ucdshop_look_core.proofs.refusals.put_refusals.Given as goal

-- the refusals so far, and those among the lines that are left, are all
abbrev pub invariant-lines : goal.invariant-lines
invariant-lines l = l.text ++ flat_map (λ (item : LineItem). refusal_line item.content) l.line-iterator ≡ l.initial.text ++ refusals l.log
