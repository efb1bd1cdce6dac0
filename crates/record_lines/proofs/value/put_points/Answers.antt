use Rattle.std.proofs.Common.{◌∙◌, refl, append_assoc}
use Rattle.std.proofs.lemmas.Result.{on_ok_weaker}
use Rattle.record_lines.proofs.PointLemmas.{points_from, no_points}
use Rattle.record_lines.proofs.value.put_points.Goals as goal

pub returns-in-empty : goal.returns-in-empty
returns-in-empty c = rw (no_points c.args.points.now c.in-empty.len_below) c.append.ensures.ok

pub returns-in_ok-put_hex-in-len1-up : goal.returns-in_ok-put_hex-in-len1-up
returns-in_ok-put_hex-in-len1-up c =
    let parts = points_from c.args.points.now c.first-item.result c.in-len1-up.len_at_least c.first-item.is in
    on_ok_weaker c.put_spaced.result (λ e. e ∙ rw (c.in_ok-put_hex-in-len1-up.ensures.ok, parts) (simp append_assoc refl)) c.put_spaced.ensures
