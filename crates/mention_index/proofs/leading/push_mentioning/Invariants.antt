use Rattle.std.proofs.Common.{◌≡◌, ◌+◌, ◌-◌, ◌<◌, ◌≤◌, ◌⊎◌, ℕ, true}
use Rattle.number_sets.specs.Keys.{has}
use Rattle.ucd_model.specs.Sameness.{is_in}
use Rattle.mention_index.proofs.leading.push_mentioning.Given as goal

-- the code points so far to which there is a step are put
abbrev pub invariant-steps : goal.invariant-steps
invariant-steps l = record {
  from : l.base ≤ l.start;
  within : l.start ≤ l.base + 1114112;
  grows : (k : ℕ) → is_in l.initial.pending.items k ≡ true → is_in l.pending.items k ≡ true;
  only : (d : ℕ) → is_in l.pending.items d ≡ true → (is_in l.initial.pending.items d ≡ true) ⊎ ((d < 1114112) × (has l.steps (l.base + d) ≡ true));
  led : (d : ℕ) → l.base + d < l.start → has l.steps (l.base + d) ≡ true → is_in l.pending.items d ≡ true;
}

abbrev pub decreases-steps : goal.decreases-steps
decreases-steps l = (l.base + 1114112) - l.start
