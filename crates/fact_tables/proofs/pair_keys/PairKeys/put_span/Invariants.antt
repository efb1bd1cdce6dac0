use Rattle.std.proofs.Common.{◌≡◌, ℕ, ◌<◌, ◌≤◌, true}
use Rattle.fact_tables.specs.Index.{is_gathered}
use Rattle.fact_tables.proofs.pair_keys.PairKeys.put_span.Given as goal

-- the points before this one are gathered
abbrev pub invariant-points : goal.invariant-points
invariant-points l = record {
  grows : (a b r : ℕ) → is_gathered l.initial.self a b r ≡ true → is_gathered l.self a b r ≡ true;
  gathered : (q : ℕ) → l.fn.span.lo ≤ q → q < l.number → is_gathered l.self l.s l.y q ≡ true;
}
