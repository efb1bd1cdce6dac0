use Rattle.std.proofs.Common.{◌≡◌, ℕ, ◌+◌, ◌<◌, ◌≤◌, get_or}
use Rattle.page_pool.proofs.block.clear_page.Given as goal

abbrev pub invariant-loop-at : goal.invariant-loop-at
invariant-loop-at l = record {
  zeros : (a : ℕ) → a < l.at → get_or l.words (l.from + a) 0 ≡ 0;
  before : (k : ℕ) → k < l.from → get_or l.words k 0 ≡ get_or l.fn.words k 0;
  behind : (k : ℕ) → l.from + 256 ≤ k → get_or l.words k 0 ≡ get_or l.fn.words k 0;
}
