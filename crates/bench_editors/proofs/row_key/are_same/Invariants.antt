use Rattle.std.proofs.Common.{◌≡◌, drop, length, map}
use Rattle.source_rows.specs.Keys.{same_texts}
use Rattle.bench_editors.proofs.row_key.are_same.Given as goal

-- the names that are left are the same exactly where all are
abbrev pub invariant-names : goal.invariant-names
invariant-names l = record {
  long : length l.names ≡ length l.others;
  left : same_texts (drop l.at l.names) (drop l.at (map (λ name. name.items) l.others)) ≡ same_texts l.names (map (λ name. name.items) l.others);
}
