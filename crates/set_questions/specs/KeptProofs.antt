-- What is kept for questions stays after a group.
-- others_stay   after a group that was accepted, each code point that it is not answered with has the record that it had
use Rattle.std.proofs.Common.{◌≡◌, ℕ, ◌<◌, false, List, Result, Ok, Err, sym, ap, ◌∙◌}
use Rattle.edit_session.specs.Groups.{AppliesAs, files_facts}
use Rattle.edit_session.specs.Unchanged.{unchanged_same}
use Rattle.edit_session.specs.declared.accepted.Accepted.{Accepted}
use Rattle.edit_session.specs.declared.apply_stop.Refused.{Refused}
use Rattle.release_rows.specs.Releases.{ReleaseItems, FileItem}
use Rattle.ucd_model.specs.Sameness.{is_in}
use Rattle.ucd_points.specs.Limits.{point_count}
use Rattle.set_answers.specs.Questions.{files_record}

pub others_stay : (accepted : Accepted) (answer : Result (List (List FileItem)) Refused) (old new : ReleaseItems) → AppliesAs (Ok accepted) answer old new
    → (c : ℕ) → c < point_count → is_in accepted.changed c ≡ false → files_record old.current c ≡ files_record new.current c
others_stay accepted (Ok files) old new applied c inside out =
    unchanged_same (files_facts old.current) (files_facts files) c inside (ap (λ (points : List ℕ). is_in points c) (sym applied.1) ∙ out)
    ∙ ap (λ (r : ReleaseItems). files_record r.current c) (sym applied.0)
others_stay accepted (Err refused) old new applied c inside out = absurd applied
