use Rattle.std.proofs.Common.{◌∙◌, refl, append_assoc}
use Rattle.std.proofs.lemmas.Result.{on_ok_weaker}
use Rattle.source_rows.proofs.TextParts.{names_from}
use Rattle.source_rows.proofs.put_rows.put_names.Goals as goal

pub returns-in_ok-append-in-len1-up : goal.returns-in_ok-append-in-len1-up
returns-in_ok-append-in-len1-up c =
    let parts = names_from c.args.names.now c.first-item.result c.in-len1-up.len_at_least c.first-item.is in
    on_ok_weaker c.put_further_names.result (λ e. e ∙ rw (c.in_ok-append-in-len1-up.ensures.ok, c.as_slice.ensures, parts) (simp append_assoc refl)) c.put_further_names.ensures
