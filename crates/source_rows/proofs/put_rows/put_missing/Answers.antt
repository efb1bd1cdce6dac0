use Rattle.std.proofs.Common.{◌∙◌, refl, append_assoc}
use Rattle.std.proofs.lemmas.Result.{on_ok_weaker}
use Rattle.source_rows.proofs.put_rows.put_missing.Goals as goal

pub returns : goal.returns
returns c = on_ok_weaker c.append-3.result (λ e. e ∙ rw (c.as_slice.ensures, c.in_ok-append-2.ensures.ok, c.in_ok-put_span.ensures, c.in_ok-append.ensures.ok) (simp append_assoc refl)) c.append-3.ensures.ok
