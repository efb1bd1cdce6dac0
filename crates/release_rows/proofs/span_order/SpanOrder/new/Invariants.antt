use Rattle.std.proofs.Common.{◌≡◌, ◌<◌, take, length, get_or}
use Rattle.std.specs.List.{list_any}
use Rattle.ucd_points.specs.Bounds.{Bounds}
use Rattle.release_rows.specs.Keys.{spans_meet}
use Rattle.release_rows.specs.SpanOrders.{NoneBeginsBehind}
use Rattle.release_rows.proofs.span_order.SpanOrder.new.Given as goal

-- the spans before this one are put, and none begins behind it
abbrev pub invariant-spans : goal.invariant-spans
invariant-spans l = record {
  met : (own : Bounds) → list_any (spans_meet own) l.order ≡ list_any (spans_meet own) (take l.span-index l.span-items);
  behind : (d : Bounds) → l.span-index < length l.span-items → NoneBeginsBehind (get_or l.span-items l.span-index d).lo l.order;
}
