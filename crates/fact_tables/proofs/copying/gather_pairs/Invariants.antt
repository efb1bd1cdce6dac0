use Rattle.std.proofs.Common.{◌≡◌, ℕ, ◌+◌, ◌-◌, ◌<◌, ◌≤◌, true}
use Rattle.fact_tables.specs.Copying.{IsListed}
use Rattle.fact_tables.specs.Index.{is_gathered}
use Rattle.fact_tables.proofs.copying.gather_pairs.Given as goal

-- the points of the span below `at` have their keys gathered
abbrev pub invariant-stretches : goal.invariant-stretches
invariant-stretches l = record {
  from : l.fn.span.lo ≤ l.at;
  within : l.at ≤ l.fn.span.hi + 1;
  grows : (s y q : ℕ) → is_gathered l.initial.keys s y q ≡ true → is_gathered l.keys s y q ≡ true;
  listed : (q : ℕ) → l.fn.span.lo ≤ q → q < l.at → IsListed (is_gathered l.keys) l.from q;
}

abbrev pub decreases-stretches : goal.decreases-stretches
decreases-stretches l = l.end + 1 - l.at
