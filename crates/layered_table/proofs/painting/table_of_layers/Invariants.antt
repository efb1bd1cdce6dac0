use Rattle.std.proofs.Common.{◌≡◌, ℕ, ◌<◌, take}
use Rattle.layered_table.specs.Layers.{word_at}
use Rattle.paged_table.specs.Paged.{values_now, values_next}
use Rattle.layered_table.proofs.painting.table_of_layers.Given as goal

-- the layers before this one are painted and committed
abbrev pub invariant-layers : goal.invariant-layers
invariant-layers l = record {
  now : (c : ℕ) → c < 1114112 → values_now l.table c ≡ word_at (take l.layer-index l.layers) l.base c;
  next : (c : ℕ) → c < 1114112 → values_next l.table c ≡ word_at (take l.layer-index l.layers) l.base c;
}
