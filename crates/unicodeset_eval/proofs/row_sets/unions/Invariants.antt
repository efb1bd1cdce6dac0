use Rattle.std.proofs.Common.{◌≡◌, ℕ, length, take}
use Rattle.std.specs.List.{list_any}
use Rattle.ucd_facts.specs.Facts.{within}
use Rattle.unicodeset_eval.specs.Found.{has_at}
use Rattle.unicodeset_eval.specs.Numbers.{bucket}
use Rattle.unicodeset_eval.proofs.row_sets.unions.Given as goal

-- the sets of the lists before this one
abbrev pub invariant-buckets : goal.invariant-buckets
invariant-buckets l = (length l.sets.items ≡ l.spans-index) × ((i c : ℕ) → has_at l.sets.items i c ≡ list_any (within c) (bucket (take l.spans-index l.buckets) i))
