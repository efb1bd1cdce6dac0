use Rattle.std.proofs.Common.{◌≡◌, ℕ, ◌*◌, ◌<◌, ◌≤◌, ◌⊎◌, ◌&&◌, cond, leb, ltb}
use Rattle.page_pool.specs.Pool.{spare}
use Rattle.paged_table.specs.Blocks.{values, block_at}
use Rattle.paged_table.specs.Layers.{IsApart}
use Rattle.paged_table.proofs.span.fill_blocks.Given as goal

abbrev pub invariant-loop-block : goal.invariant-loop-block
invariant-loop-block l = record {
  apart : IsApart l.pool l.now l.next;
  now : (c : ℕ) → values l.pool l.now c ≡ values l.fn.pool l.now c;
  next : (c : ℕ) → values l.pool l.next c ≡ cond (leb (l.from * 256) c && ltb c (l.block * 256)) l.value (values l.fn.pool l.fn.next c);
  others : (b : ℕ) → (b < l.from) ⊎ (l.block ≤ b) → block_at l.next b ≡ block_at l.fn.next b;
  room : spare l.fn.pool ≤ spare l.pool;
}
