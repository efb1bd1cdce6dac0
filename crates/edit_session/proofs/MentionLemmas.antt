-- Steps to the first code points, and to more of them.
-- steps_run    to those of a stretch without mappings too, where there are steps to those before it
-- steps_more   to one more
-- steps_all    to all, and as another index tells them
use Rattle.std.proofs.Common.{◌≡◌, ◌∙◌, ℕ, ◌+◌, ◌≤◌, Bool, true, subst, arith, inl, inr}
use Rattle.std.proofs.lemmas.Bool.{cases_lt}
use Rattle.ucd_facts.specs.Facts.{Facts}
use Rattle.ucd_facts.specs.Uniform.{IsPlain}
use Rattle.ucd_points.specs.Stretches.{HoldsTo}
use Rattle.mention_index.specs.StepProofs.{plain_steps}
use Rattle.mention_index.specs.Steps.{HasSteps, HasStepsTo}
use Rattle.edit_session.specs.Questions.{HasStepsBelow}

grown : (step more : ℕ → ℕ → Bool) (F : ℕ → Facts) (c : ℕ) → ((x d : ℕ) → step x d ≡ true → more x d ≡ true) → HasStepsTo step F c → HasStepsTo more F c
grown step more F c grows has = record {
  members = λ x e ne. grows x c (has.members x e ne);
  first = λ s y composes. let first = has.first s y composes in (first.0, grows c s first.1);
}

pub steps_run : (step : ℕ → ℕ → Bool) (F : ℕ → Facts) (c last : ℕ) → HasStepsBelow step c F → HoldsTo (λ d. IsPlain d (F d)) c last → HasStepsBelow step (last + 1) F
steps_run step F c last before stretch d lt =
    elim (cases_lt d c) [
      | inl less ↦ before d less
      | inr from ↦ plain_steps step F d (stretch.each d from (omega (arith, lt)))
    ]

pub steps_more : (step more : ℕ → ℕ → Bool) (F : ℕ → Facts) (c : ℕ) → ((x d : ℕ) → step x d ≡ true → more x d ≡ true) → HasStepsBelow step c F → HasStepsTo more F c → HasStepsBelow more (c + 1) F
steps_more step more F c grows before one d lt =
    elim (cases_lt d c) [
      | inl less ↦ grown step more F d grows (before d less)
      | inr from ↦ let same : c ≡ d = omega (arith, from, lt) in subst (λ k. HasStepsTo more F k) same one
    ]

pub steps_all : (step done : ℕ → ℕ → Bool) (F : ℕ → Facts) (n : ℕ) → 1114112 ≤ n → ((x c : ℕ) → done x c ≡ step x c) → HasStepsBelow step n F → HasSteps done F
steps_all step done F n all same has c lt = grown step done F c (λ x d e. same x d ∙ e) (has c (omega (arith, lt, all)))
