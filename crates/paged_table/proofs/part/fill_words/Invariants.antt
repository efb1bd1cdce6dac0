use Rattle.std.proofs.Common.{◌≡◌, ◌≢◌, ℕ, ◌<◌, ◌≤◌, ◌⊎◌}
use Rattle.page_pool.specs.Pool.{is_live, word_of, spare}
use Rattle.paged_table.proofs.part.fill_words.Given as goal

abbrev pub invariant-loop-at : goal.invariant-loop-at
invariant-loop-at l = record {
  set : (a : ℕ) → a < 256 → l.lo ≤ a → a < l.at → word_of l.pool l.page a ≡ l.value;
  rest : (a : ℕ) → a < 256 → (a < l.lo) ⊎ (l.at ≤ a) → word_of l.pool l.page a ≡ word_of l.fn.pool l.page a;
  others : (p a : ℕ) → p ≢ l.page → a < 256 → word_of l.pool p a ≡ word_of l.fn.pool p a;
  live : (p : ℕ) → is_live l.pool p ≡ is_live l.fn.pool p;
  room : spare l.pool ≡ spare l.fn.pool;
}
