use Rattle.std.proofs.Common.{◌≡◌, ℕ, ◌+◌, ◌<◌, ◌≤◌, get_or}
use Rattle.page_pool.proofs.block.copy_page.Given as goal

abbrev pub invariant-loop-at : goal.invariant-loop-at
invariant-loop-at l = record {
  copied : (a : ℕ) → a < l.at → get_or l.words (l.to + a) 0 ≡ get_or l.fn.words (l.from + a) 0;
  before : (k : ℕ) → k < l.to → get_or l.words k 0 ≡ get_or l.fn.words k 0;
  behind : (k : ℕ) → l.to + l.at ≤ k → get_or l.words k 0 ≡ get_or l.fn.words k 0;
}
