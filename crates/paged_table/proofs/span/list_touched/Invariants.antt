use Rattle.std.proofs.Common.{◌≡◌, ℕ, ◌<◌, ◌≤◌, true}
use Rattle.paged_table.specs.Layers.{Covers, listed}
use Rattle.paged_table.proofs.span.list_touched.Given as goal

abbrev pub invariant-loop-block : goal.invariant-loop-block
invariant-loop-block l = record {
  covers : Covers l.touched.items l.now l.next;
  reached : (b : ℕ) → l.first ≤ b → b < l.block → listed l.touched.items b ≡ true;
}
