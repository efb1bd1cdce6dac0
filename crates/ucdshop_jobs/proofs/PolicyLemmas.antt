-- The report of releases in which nothing is prepared.
use Rattle.std.proofs.Common.{◌≡◌, List, Result, ap, subst, ◌∙◌, IfOk}
use Rattle.edit_session.specs.Benches.{HasNothingPrepared}
use Rattle.release_rows.specs.Releases.{ReleaseItems}
use Rattle.run_inputs.specs.Verdict.{release_items}
use Rattle.stability_policies.specs.Reports.{report}
use Rattle.stability_policies.specs.declared.breaks.Break.{Break}

-- what is now is the release
still_items : (release : ReleaseItems) → HasNothingPrepared release → release ≡ release_items release.current
still_items release still = ap (λ items. record { current = release.current; prepared = items }) still

pub report_now : {E : Type 0} (r : Result (List Break) E) (old new old_rows new_rows : ReleaseItems) → old_rows ≡ old → HasNothingPrepared old_rows → new_rows ≡ new → HasNothingPrepared new_rows
    → IfOk r (λ breaks. breaks ≡ report old_rows new_rows) → IfOk r (λ breaks. breaks ≡ report (release_items old.current) (release_items new.current))
report_now r old new old_rows new_rows same_old still_old same_new still_new reported =
    let before : old_rows ≡ release_items old.current = still_items old_rows still_old ∙ ap (λ (it : ReleaseItems). release_items it.current) same_old in
    let after : new_rows ≡ release_items new.current = still_items new_rows still_new ∙ ap (λ (it : ReleaseItems). release_items it.current) same_new in
    subst (λ (it : ReleaseItems). IfOk r (λ breaks. breaks ≡ report it (release_items new.current))) before
    (subst (λ (it : ReleaseItems). IfOk r (λ breaks. breaks ≡ report old_rows it)) after reported)
