-- One more release in a chain, and the step that leads to it.
use Rattle.std.proofs.Common.{◌≡◌, ℕ, ◌+◌, ◌<◌, List, [], ◌∷◌, ◌++◌, length, Option, Some, refl, sym, ap, ◌∙◌, arith}
use Rattle.release_rows.specs.Releases.{ReleaseItems}
use Rattle.age_chain.specs.Ages.{StandsFor, breaks_since, last_of}
use Rattle.stability_policies.specs.Reports.{report}
use Rattle.stability_policies.specs.declared.breaks.Break.{Break}
use Rattle.ucdshop_more_core.specs.Chaining.{Follows}
use Rattle.ucdshop_more_core.specs.Steps.{breaks_in, step_text, steps_of, steps_text}
use Rattle.ucdshop_more_core.specs.declared.chaining.Chained.{Chained}
use Rattle.ucdshop_more_core.proofs.StepLemmas.{breaks_more, steps_after, steps_count, text_more}

last_there : (release : ReleaseItems) (later : List ReleaseItems) → (last : ReleaseItems) × (last_of (release ∷ later) ≡ Some last)
last_there release [] = (release, refl)
last_there release (next ∷ later) = last_there next later

-- the first release, to which no step leads
pub follows_first : (old new : Chained) (bench : ReleaseItems) (breaks : List Break) (releases : List ReleaseItems) → Follows old releases → breaks ≡ breaks_since old.chain.last bench
    → StandsFor new.chain (releases ++ bench ∷ []) → ¬ (1 < old.chain.count + 1) → new.steps ≡ old.steps → new.breaks ≡ old.breaks + length breaks → Follows new (releases ++ bench ∷ [])
follows_first old new bench breaks [] before are stands few text sum =
    let none : breaks ≡ [] = are ∙ ap (λ (last : Option ReleaseItems). breaks_since last bench) before.chain.last in
    record { chain = stands; steps = text ∙ before.steps; breaks = omega (arith, sum, ap length none, before.breaks) }
follows_first old new bench breaks (release ∷ later) before are stands few text sum = absurd (few (omega (arith, before.chain.count)))

-- a later one
pub follows_step : (old new : Chained) (bench : ReleaseItems) (breaks : List Break) (releases : List ReleaseItems) → Follows old releases → breaks ≡ breaks_since old.chain.last bench
    → StandsFor new.chain (releases ++ bench ∷ []) → 1 < old.chain.count + 1 → new.steps ≡ old.steps ++ step_text (old.chain.count + 1) breaks → new.breaks ≡ old.breaks + length breaks
    → Follows new (releases ++ bench ∷ [])
follows_step old new bench breaks [] before are stands more text sum = absurd (omega (arith, before.chain.count, more))
follows_step old new bench breaks (release ∷ later) before are stands more text sum =
    let releases : List ReleaseItems = release ∷ later in
    let there = last_there release later in
    let last : ReleaseItems = there.0 in
    let are_those : breaks ≡ report last bench = are ∙ ap (λ (o : Option ReleaseItems). breaks_since o bench) (before.chain.last ∙ there.1) in
    let steps : steps_of (releases ++ bench ∷ []) ≡ steps_of releases ++ report last bench ∷ [] = steps_after releases last bench there.1 in
    let number : old.chain.count + 1 ≡ 2 + length (steps_of releases) = omega (arith, before.chain.count, steps_count release later) in
    record {
      chain = stands;
      steps = text ∙ ap (λ (before : List ℕ). before ++ step_text (old.chain.count + 1) breaks) before.steps
          ∙ ap (λ (n : ℕ). steps_text (steps_of releases) ++ step_text n breaks) number
          ∙ ap (λ (bs : List Break). steps_text (steps_of releases) ++ step_text (2 + length (steps_of releases)) bs) are_those
          ∙ sym (text_more 2 (steps_of releases) (report last bench)) ∙ sym (ap steps_text steps);
      breaks = omega (arith, sum, before.breaks, ap length are_those, breaks_more (steps_of releases) (report last bench), ap breaks_in steps);
    }
