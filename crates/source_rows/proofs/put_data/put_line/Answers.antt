use Rattle.std.proofs.Common.{◌∙◌, refl, append_assoc}
use Rattle.std.proofs.lemmas.Result.{on_ok_weaker}
use Rattle.source_rows.proofs.TextParts.{line_parts}
use Rattle.source_rows.proofs.put_data.put_line.Goals as goal

pub returns : goal.returns
returns c =
    let parts = line_parts c.args.row.now c.args.point c.args.name.now in
    on_ok_weaker c.put_cases.result (λ e. e ∙ rw (c.in_ok-put_fields_8_to_11.ensures, c.in_ok-put_fields_4_to_7.ensures, c.in_ok-put_fields_0_to_3.ensures, parts) (simp append_assoc refl)) c.put_cases.ensures
