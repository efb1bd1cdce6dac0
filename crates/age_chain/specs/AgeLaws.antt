-- What ages mean, and what a chain keeps of the forms. UAX #44, section 5.14; UAX #15, section 3.
-- AgeIsOfTheFirst    an age is the number of a release in which the code point is assigned, and of none before it; what has no age
--                    is assigned in none; an age stays, whatever release follows
-- FormsStayFrom      where no step from a release on breaks a policy on forms, a list of code points that are assigned in it has
--                    the same four forms in it and in every later one
use Rattle.std.specs.Prelude.{◌≡◌, ◌+◌, ℕ, true, false, List, ◌∷◌, ◌++◌, length, drop, Some, None}
use Rattle.std.specs.List.{AllByRecursion as Each}
use Rattle.release_rows.specs.Releases.{ReleaseItems, rows_now}
use Rattle.ucd_facts.specs.Facts.{facts}
use Rattle.stability_policies.specs.ChainForms.{StepsKeepForms}
use Rattle.stability_policies.specs.CommonForms.{AllAssigned}
use Rattle.stability_policies.specs.StableForms.{SameForms}
use Rattle.age_chain.specs.Ages.{age, is_assigned}

pub record AgeIsOfTheFirst : Type 0 where
  pub first : (before later : List ReleaseItems) (release : ReleaseItems) (c : ℕ) → Each (λ earlier. is_assigned earlier c ≡ false) before → is_assigned release c ≡ true
      → age (before ++ release ∷ later) c ≡ Some (length before + 1)
  pub none : (releases : List ReleaseItems) (c : ℕ) → Each (λ release. is_assigned release c ≡ false) releases → age releases c ≡ None
  pub stays : (releases later : List ReleaseItems) (c k : ℕ) → age releases c ≡ Some k → age (releases ++ later) c ≡ Some k

abbrev pub FormsStayFrom : Type 0
FormsStayFrom =
    (releases : List ReleaseItems) (k : ℕ) (release : ReleaseItems) (later : List ReleaseItems) → drop k releases ≡ release ∷ later → StepsKeepForms release later
    → (s : List ℕ) → AllAssigned (facts (rows_now release)) s → Each (λ new. SameForms (facts (rows_now release)) (facts (rows_now new)) s) later
