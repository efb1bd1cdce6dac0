use Rattle.std.proofs.Common.{◌≡◌, ◌++◌, flat_map}
use Rattle.record_lines.specs.declared.point_text.PointText.{PointText}
use Rattle.ucdshop_look_core.proofs.showing.joined_texts.Given as goal

-- the first text, and the others so far
abbrev pub invariant-told : goal.invariant-told
invariant-told l = l.text ≡ l.initial.text ++ flat_map (λ (one : PointText). one.text) l.yielded
