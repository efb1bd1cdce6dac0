-- What an empty part of a report means, said of two releases and of their report. UAX #15, section 3.
-- EmptyPartKeepsForms      if the old release is valid and the report lists nothing of P01, P03, P04 and P05, the four forms of a
--                          list of code points that were assigned are the same in both releases
-- EmptyPartKeepsCaseless   if it lists nothing of P10 either, so is the full folding of their Normalisation Form KC
use Rattle.std.specs.Prelude.{◌≡◌, ℕ, List}
use Rattle.release_rows.specs.Releases.{ReleaseItems, rows_now}
use Rattle.ucd_facts.specs.Facts.{facts}
use Rattle.stability_policies.specs.CommonForms.{AllAssigned, KeepsForms, ListsNone}
use Rattle.stability_policies.specs.Policies.{caseless}
use Rattle.stability_policies.specs.Reports.{report}
use Rattle.stability_policies.specs.StableForms.{SameForms}
use Rattle.stability_policies.specs.Views.{IsValid}
use Rattle.stability_policies.specs.declared.policy.Policy.TheVariants.{P10}

abbrev pub EmptyPartKeepsForms : Type 0
EmptyPartKeepsForms =
    (old new : ReleaseItems) → IsValid old → KeepsForms (report old new) → (s : List ℕ) → AllAssigned (facts (rows_now old)) s
    → SameForms (facts (rows_now old)) (facts (rows_now new)) s

abbrev pub EmptyPartKeepsCaseless : Type 0
EmptyPartKeepsCaseless =
    (old new : ReleaseItems) → IsValid old → KeepsForms (report old new) → ListsNone P10 (report old new) → (s : List ℕ)
    → AllAssigned (facts (rows_now old)) s → caseless (facts (rows_now old)) s ≡ caseless (facts (rows_now new)) s
