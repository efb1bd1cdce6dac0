use Rattle.std.proofs.Common.{◌∙◌, refl, sym, append_assoc, append-nil}
use Rattle.std.proofs.lemmas.Result.{on_ok_weaker}
use Rattle.source_rows.proofs.TextParts.{mapping_from, mapping_of_none}
use Rattle.source_rows.proofs.put_points.put_mapping.Goals as goal

pub returns-in-empty : goal.returns-in-empty
returns-in-empty c = rw (mapping_of_none c.args.points.now c.in-empty.len_below) (sym (append-nil c.args.into.now))

pub returns-in_ok-put_hex-in-len1-up : goal.returns-in_ok-put_hex-in-len1-up
returns-in_ok-put_hex-in-len1-up c =
    let parts = mapping_from c.args.points.now c.first-item.result c.in-len1-up.len_at_least c.first-item.is in
    on_ok_weaker c.put_spaced.result (λ e. e ∙ rw (c.in_ok-put_hex-in-len1-up.ensures.ok, parts) (simp append_assoc refl)) c.put_spaced.ensures
