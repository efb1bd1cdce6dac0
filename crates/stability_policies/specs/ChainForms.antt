-- What a chain of releases keeps of the forms. UAX #15, section 3.
-- KeepsAllForms old new       the old release is valid, and the new one breaks none of P01, P03, P04 and P05 against it
-- StepsKeepForms old later    so does each step from the old release through the later ones, in order
-- FormsStayThrough            then a list of code points that are assigned in the old release has the same four forms in it and in
--                             each of the later ones
use Rattle.std.specs.Prelude.{ℕ, List, [], ◌∷◌}
use Rattle.std.specs.List.{AllByRecursion as Each}
use Rattle.release_rows.specs.Releases.{ReleaseItems, rows_now}
use Rattle.ucd_facts.specs.Facts.{facts}
use Rattle.stability_policies.specs.CommonForms.{AllAssigned, KeepsForms}
use Rattle.stability_policies.specs.Reports.{report}
use Rattle.stability_policies.specs.StableForms.{SameForms}
use Rattle.stability_policies.specs.Views.{IsValid}

pub record KeepsAllForms (old new : ReleaseItems) : Type 0 where
  pub valid : IsValid old
  pub quiet : KeepsForms (report old new)

abbrev pub StepsKeepForms : ReleaseItems → List ReleaseItems → Type 0
StepsKeepForms old [] = Unit {0}
StepsKeepForms old (new ∷ later) = KeepsAllForms old new × StepsKeepForms new later

abbrev pub FormsStayThrough : Type 0
FormsStayThrough =
    (old : ReleaseItems) (later : List ReleaseItems) → StepsKeepForms old later → (s : List ℕ) → AllAssigned (facts (rows_now old)) s
    → Each (λ new. SameForms (facts (rows_now old)) (facts (rows_now new)) s) later
