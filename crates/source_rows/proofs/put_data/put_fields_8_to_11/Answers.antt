use Rattle.std.proofs.Common.{◌∙◌, append_assoc, refl}
use Rattle.std.proofs.lemmas.Result.{on_ok_weaker}
use Rattle.source_rows.proofs.put_data.put_fields_8_to_11.Goals as goal

pub returns : goal.returns
returns c = on_ok_weaker c.put_field-4.result (λ e. e ∙ rw (c.as_slice-4.ensures, c.in_ok-put_field-3.ensures, c.as_slice-3.ensures, c.in_ok-put_field-2.ensures, c.as_slice-2.ensures, c.in_ok-put_field.ensures, c.as_slice.ensures) (simp append_assoc refl)) c.put_field-4.ensures
