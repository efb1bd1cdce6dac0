use Rattle.std.proofs.Common.{◌∙◌, refl, append_assoc}
use Rattle.std.proofs.lemmas.Result.{on_ok_weaker}
use Rattle.source_rows.proofs.put_rows.put_casing.Goals as goal

pub returns : goal.returns
returns c = on_ok_weaker c.put_conditions.result (λ e. e ∙ rw (c.as_slice-4.ensures, c.in_ok-push.ensures.ok, c.in_ok-put_mapping-3.ensures, c.as_slice-3.ensures, c.in_ok-append-3.ensures.ok, c.in_ok-put_mapping-2.ensures, c.as_slice-2.ensures, c.in_ok-append-2.ensures.ok, c.in_ok-put_mapping.ensures, c.as_slice.ensures, c.in_ok-append.ensures.ok, c.in_ok-put_hex.ensures.ok) (simp append_assoc refl)) c.put_conditions.ensures
