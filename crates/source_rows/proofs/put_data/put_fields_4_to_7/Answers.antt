use Rattle.std.proofs.Common.{◌∙◌, refl, append_assoc}
use Rattle.std.proofs.lemmas.Result.{on_ok_weaker}
use Rattle.source_rows.proofs.put_data.put_fields_4_to_7.Goals as goal

pub returns : goal.returns
returns c = on_ok_weaker c.put_field-3.result (λ e. e ∙ rw (c.as_slice-4.ensures, c.in_ok-put_field-2.ensures, c.as_slice-3.ensures, c.in_ok-push.ensures.ok, c.in_ok-put_decomposition.ensures, c.as_slice-2.ensures, c.in_ok-put_field.ensures, c.as_slice.ensures) (simp append_assoc refl)) c.put_field-3.ensures
