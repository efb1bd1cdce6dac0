use Rattle.std.proofs.Common.{◌≡◌, ◌<◌, ◌||◌, ℕ, length, drop}
use Rattle.std.specs.List.{list_any}
use Rattle.layered_table.specs.Layers.{puts}
use Rattle.ucd_facts.specs.Facts.{within}
use Rattle.unicodeset_eval.specs.Numbers.{bucket}
use Rattle.unicodeset_eval.proofs.layers.push_pieces.Given as goal

-- the spans so far, and those of the pieces that are left
abbrev pub invariant-pieces : goal.invariant-pieces
invariant-pieces l =
    (length l.buckets.items ≡ length l.initial.buckets.items)
    × ((i c : ℕ) → i < length l.initial.buckets.items → (list_any (within c) (bucket l.buckets.items i) || list_any (puts i c) (drop l.piece-index l.pieces)) ≡ (list_any (within c) (bucket l.initial.buckets.items i) || list_any (puts i c) l.pieces))
