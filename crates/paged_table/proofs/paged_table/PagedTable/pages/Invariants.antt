use Rattle.std.proofs.Common.{◌≡◌, ◌≤◌}
use Rattle.paged_table.specs.Paged.{values_now}
use Rattle.paged_table.specs.Pages.{uneven_count}
use Rattle.paged_table.proofs.paged_table.PagedTable.pages.Given as goal

abbrev pub invariant-loop-block : goal.invariant-loop-block
invariant-loop-block l = record {
  count : l.pages ≡ uneven_count (values_now l.self) l.block-index;
  bound : l.pages ≤ l.block-index;
}
