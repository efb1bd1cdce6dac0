-- Code points that a group is not answered with.
-- unchanged_same   a code point that is not among those whose records differ has the same record before and after
use Rattle.std.proofs.Common.{◌≡◌, ℕ, ◌<◌, false, not, sym, ◌∙◌}
use Rattle.std.proofs.lemmas.Bool.{not-false}
use Rattle.ucd_facts.specs.Facts.{Facts}
use Rattle.ucd_model.specs.KeptNumbers.{in_kept}
use Rattle.ucd_model.specs.Records.{record_at}
use Rattle.ucd_model.specs.Sameness.{is_in, same_record}
use Rattle.ucd_model.specs.SamenessProofs.{records_are_told}
use Rattle.ucd_points.specs.Limits.{point_count}
use Rattle.edit_session.specs.Groups.{changed}

pub unchanged_same : (F G : ℕ → Facts) (c : ℕ) → c < point_count → is_in (changed F G) c ≡ false → record_at F c ≡ record_at G c
unchanged_same F G c inside out =
    (records_are_told (record_at F c) (record_at G c)).0
    (not-false (same_record (record_at F c) (record_at G c)) (sym (in_kept (λ k. not (same_record (record_at F k) (record_at G k))) point_count c inside) ∙ out))
