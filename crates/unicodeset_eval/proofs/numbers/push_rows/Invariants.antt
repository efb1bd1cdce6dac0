use Rattle.std.proofs.Common.{◌≡◌, ◌<◌, ◌||◌, ℕ, length, drop}
use Rattle.std.specs.List.{list_any}
use Rattle.ucd_facts.specs.Facts.{within}
use Rattle.unicodeset_eval.specs.Numbers.{bucket, is_of}
use Rattle.unicodeset_eval.proofs.numbers.push_rows.Given as goal

-- the spans so far, and those of the rows that are left
abbrev pub invariant-rows : goal.invariant-rows
invariant-rows l =
    (length l.buckets.items ≡ length l.initial.buckets.items)
    × ((i c : ℕ) → i < length l.initial.buckets.items → (list_any (within c) (bucket l.buckets.items i) || list_any (is_of i c) (drop l.row-index l.rows)) ≡ (list_any (within c) (bucket l.initial.buckets.items i) || list_any (is_of i c) l.rows))
