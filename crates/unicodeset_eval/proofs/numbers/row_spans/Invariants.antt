use Rattle.std.proofs.Common.{◌≡◌, ◌++◌, drop, map}
use Rattle.unicodeset_eval.proofs.numbers.row_spans.Given as goal

-- the spans so far, and those of the rows that are left
abbrev pub invariant-rows : goal.invariant-rows
invariant-rows l = l.spans.items ++ map (λ r. r.span) (drop l.row-index l.rows) ≡ map (λ r. r.span) l.rows
