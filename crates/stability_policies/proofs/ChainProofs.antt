-- The forms stay from step to step.
use Rattle.std.proofs.Common.{◌≡◌, ℕ, List, [], ◌∷◌, ◌∙◌}
use Rattle.std.specs.List.{AllByRecursion as Each}
use Rattle.release_rows.specs.Releases.{ReleaseItems, rows_now}
use Rattle.ucd_facts.specs.Facts.{Facts, facts}
use Rattle.stability_policies.specs.ChainForms.{StepsKeepForms, FormsStayThrough}
use Rattle.stability_policies.specs.StableForms.{Old, SameForms}
use Rattle.stability_policies.proofs.ListedProofs.{each_old, stays_assigned, stays_normal}
use Rattle.stability_policies.proofs.StableProofs.{forms_stay}

each_weaker : {A : Type 0} {P Q : A → Type 0} (xs : List A) → ((x : A) → P x → Q x) → Each P xs → Each Q xs
each_weaker [] gives all = tt
each_weaker (x ∷ xs) gives all = (gives x all.0, each_weaker xs gives all.1)

then_same : (F G H : ℕ → Facts) (s : List ℕ) → SameForms F G s → SameForms G H s → SameForms F H s
then_same F G H s a b = record { nfd = a.nfd ∙ b.nfd; nfc = a.nfc ∙ b.nfc; nfkd = a.nfkd ∙ b.nfkd; nfkc = a.nfkc ∙ b.nfkc }

stay_through : (old : ReleaseItems) (later : List ReleaseItems) → StepsKeepForms old later → (s : List ℕ) → Each (Old (facts (rows_now old))) s
    → Each (λ new. SameForms (facts (rows_now old)) (facts (rows_now new)) s) later
stay_through old [] steps s is = tt
stay_through old (new ∷ later) steps s is =
    let F : ℕ → Facts = facts (rows_now old) in
    let G : ℕ → Facts = facts (rows_now new) in
    let same : SameForms F G s = forms_stay F G (stays_normal old new steps.0.valid steps.0.quiet) s is in
    let still : Each (Old G) s = each_weaker s (stays_assigned old new steps.0.quiet) is in
    (same, each_weaker later (λ newer. then_same F G (facts (rows_now newer)) s same) (stay_through new later steps.1 s still))

pub forms_stay_through : FormsStayThrough
forms_stay_through old later steps s assigned = stay_through old later steps s (each_old old old s assigned)
