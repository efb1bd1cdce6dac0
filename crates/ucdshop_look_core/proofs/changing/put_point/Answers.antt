use Rattle.std.proofs.Common.{◌++◌, ap, ◌∙◌}
use Rattle.std.proofs.lemmas.Result.{on_ok_weaker}
use Rattle.ucd_model.specs.Records.{Record, kept_record}
use Rattle.record_lines.specs.Earlier.{earlier_record}
use Rattle.record_lines.specs.RecordTexts.{change_text}
use Rattle.ucdshop_look_core.specs.Changes.{what_differs}
use Rattle.ucdshop_look_core.proofs.changing.put_point.Goals as goal

pub returns : goal.returns
unfolding what_differs
returns c =
    on_ok_weaker c.put_changes.result
    (λ put. put
    ∙ ap (λ (R : Record). c.args.text.now ++ change_text c.args.point R (kept_record c.record-after.result.now)) c.record-before.ensures
    ∙ ap (λ (S : Record). c.args.text.now ++ change_text c.args.point (earlier_record c.args.earlier.now c.args.point) S) c.record-after.ensures)
    c.put_changes.ensures
