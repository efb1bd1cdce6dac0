use Rattle.std.proofs.Common.{◌≡◌, ℕ, [], length}
use Rattle.unicodeset_eval.specs.Numbers.{bucket}
use Rattle.unicodeset_eval.proofs.numbers.buckets.Given as goal

-- so many empty lists
abbrev pub invariant-buckets : goal.invariant-buckets
invariant-buckets l = (length l.buckets.items ≡ l.counter) × ((i : ℕ) → bucket l.buckets.items i ≡ [])
