use Rattle.std.proofs.Common.{◌≡◌, ◌++◌, List, ℕ, ap, ◌∙◌}
use Rattle.ucd_model.specs.Records.{Record, record_at}
use Rattle.edit_session.specs.Groups.{files_facts}
use Rattle.record_lines.specs.RecordTexts.{record_text}
use Rattle.record_lines.specs.declared.point_text.PointText.{PointText}
use Rattle.ucdshop_look_core.proofs.showing.record_told.Goals as goal

abbrev told_of : ℕ → List ℕ → PointText
told_of c text = record { point = c; text = text }

pub returns : goal.returns
returns c =
    let point = c.args.point in
    let old : List ℕ = c.new-text.result in
    let put : c.put_record.new.text ≡ old ++ record_text point (record_at (files_facts c.args.bench.now.current) point) =
    c.in_ok-put_record.ensures ∙ ap (λ (R : Record). old ++ record_text point R) c.record.ensures in
    ap (told_of point) (put ∙ ap (λ (xs : List ℕ). xs ++ record_text point (record_at (files_facts c.args.bench.now.current) point)) c.new-text.ensures)
