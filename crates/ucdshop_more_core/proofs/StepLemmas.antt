-- One more release, and the step that leads to it.
-- step_to last new         the breaks of the step from the last release to a new one; no step where there is no release
use Rattle.std.proofs.Common.{◌≡◌, ℕ, suc, ◌+◌, List, [], ◌∷◌, ◌++◌, length, Option, Some, None, refl, ap, sym, ◌∙◌, arith, append_assoc, append-nil}
use Rattle.release_rows.specs.Releases.{ReleaseItems}
use Rattle.age_chain.specs.Ages.{last_of}
use Rattle.stability_policies.specs.Reports.{report}
use Rattle.stability_policies.specs.declared.breaks.Break.{Break}
use Rattle.ucdshop_more_core.specs.Steps.{breaks_in, step_text, steps_from, steps_of}

abbrev step_to : Option ReleaseItems → ReleaseItems → List (List Break)
step_to None new = []
step_to (Some old) new = report old new ∷ []

steps_more : (releases : List ReleaseItems) (new : ReleaseItems) → steps_of (releases ++ new ∷ []) ≡ steps_of releases ++ step_to (last_of releases) new
steps_more (old ∷ next ∷ later) new = ap (λ (steps : List (List Break)). report old next ∷ steps) (steps_more (next ∷ later) new)
steps_more _ new = refl

-- a step leads to each release but the first
pub steps_count : (release : ReleaseItems) (later : List ReleaseItems) → length (steps_of (release ∷ later)) ≡ length later
steps_count release [] = refl
steps_count release (next ∷ later) = ap suc (steps_count next later)

pub text_more : (k : ℕ) (steps : List (List Break)) (breaks : List Break) → steps_from k (steps ++ breaks ∷ []) ≡ steps_from k steps ++ step_text (k + length steps) breaks
text_more k [] breaks = append-nil (step_text k breaks) ∙ ap (λ (n : ℕ). step_text n breaks) (omega arith)
text_more k (first ∷ steps) breaks =
    let number : k + 1 + length steps ≡ k + length (first ∷ steps) = omega arith in
    ap (λ (text : List ℕ). step_text k first ++ text) (text_more (k + 1) steps breaks)
    ∙ sym (append_assoc (step_text k first) (steps_from (k + 1) steps) (step_text (k + 1 + length steps) breaks))
    ∙ ap (λ (n : ℕ). (step_text k first ++ steps_from (k + 1) steps) ++ step_text n breaks) number

pub breaks_more : (steps : List (List Break)) (breaks : List Break) → breaks_in (steps ++ breaks ∷ []) ≡ breaks_in steps + length breaks
breaks_more [] breaks = omega arith
breaks_more (first ∷ steps) breaks = omega (arith, breaks_more steps breaks)

pub steps_after : (releases : List ReleaseItems) (old new : ReleaseItems) → last_of releases ≡ Some old → steps_of (releases ++ new ∷ []) ≡ steps_of releases ++ report old new ∷ []
steps_after releases old new last = steps_more releases new ∙ ap (λ (o : Option ReleaseItems). steps_of releases ++ step_to o new) last
