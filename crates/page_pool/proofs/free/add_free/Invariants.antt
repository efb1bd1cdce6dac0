use Rattle.std.proofs.Common.{◌≡◌, ◌+◌, ◌-◌, ◌++◌, false, not, replicate, vec_len, vec_capacity, count_by}
use Rattle.page_pool.specs.Pool.{IsFree}
use Rattle.page_pool.proofs.free.add_free.Given as goal

abbrev pub invariant-loop-page : goal.invariant-loop-page
invariant-loop-page l = record {
  live : l.live.items ≡ l.fn.live.items ++ replicate (l.page - l.pages) false;
  live_len : vec_len l.live ≡ l.page;
  live_room : vec_capacity l.live ≡ vec_capacity l.fn.live;
  free : IsFree l.live.items l.free.items;
  free_len : vec_len l.free ≡ vec_len l.fn.free + (l.page - l.pages);
  free_room : vec_capacity l.free ≡ vec_capacity l.fn.free;
  spare : count_by not l.live.items ≡ count_by not l.fn.live.items + (l.page - l.pages);
}
