use Rattle.std.proofs.Common.{◌≡◌, ◌≤◌, ℕ, not, is_some, ◌==◌, sym, ap, ◌∙◌, rules, arith}
use Rattle.range_table.specs.RunTable.{values_now}
use Rattle.age_chain.specs.Ages.{age_label, ages_of}
use Rattle.age_chain.proofs.ListingLemmas.{aged_if}
use Rattle.age_chain.proofs.listing.count_aged.Goals as goal

pub returns : goal.returns
returns c =
    let values : ℕ → ℕ = values_now c.args.ages.now in
    c.count_passing.ensures (λ d. is_some (age_label (ages_of values d)))
    (λ lo told lt by.
    let run : (lo ≤ told) × ((k : ℕ) → lo ≤ k → k ≤ told → values k ≡ values lo) = search rules in
    (run.0, λ k low high. aged_if values k (omega arith) ∙ ap (λ (v : ℕ). not (v == 0)) (run.1 k low high) ∙ sym (aged_if values lo (omega (arith, run.0)))))
    (λ d given lt by.
    let is : given ≡ not (values d == 0) = search rules in
    is ∙ sym (aged_if values d lt))
