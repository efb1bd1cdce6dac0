use Rattle.std.proofs.Common.{◌≡◌, ◌+◌, ℕ, Bool, length, count_ones}
use Rattle.unicodeset_eval.specs.Changes.{all_changed}
use Rattle.unicodeset_eval.proofs.changes.push_change.Given as goal

-- the changes do what they did before any were put together, and are one more than the digits 1 that are left
abbrev pub invariant-carries : goal.invariant-carries
invariant-carries l = record {
  same : (c : ℕ) (b : Bool) → all_changed c b l.changes.items ≡ all_changed c b l.initial.changes.items;
  few : length l.initial.changes.items ≡ count_ones l.before + 1 → (length l.changes.items ≡ count_ones l.digits + 1) × (count_ones (l.digits + 1) ≡ count_ones (l.before + 1));
}

abbrev pub decreases-carries : goal.decreases-carries
decreases-carries l = l.digits
