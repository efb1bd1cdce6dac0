use Rattle.std.proofs.Common.{◌≡◌, ◌≤◌, ℕ, Bool, count_by}
use Rattle.std.specs.List.{range_with_len}
use Rattle.point_stretches.specs.Stretches.{Gives, TellsAlike}
use Rattle.point_stretches.proofs.counting.count_passing.Given as goal

-- the code points so far are counted
abbrev pub invariant-stretches : goal.invariant-stretches
invariant-stretches g l = record {
  same : l.span-iterator.last_of ≡ l.fn.last_of;
  few : l.count ≤ l.span-iterator.from;
  counted : (p : ℕ → Bool) → TellsAlike (goal.F-post g l.fn.last_of) p → Gives (goal.P-post g l.passes) p → l.count ≡ count_by p (range_with_len 0 l.span-iterator.from);
}
