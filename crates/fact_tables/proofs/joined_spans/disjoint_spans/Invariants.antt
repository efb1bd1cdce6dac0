use Rattle.std.proofs.Common.{◌≡◌, ◌||◌, ◌<◌, ℕ, take, length, get_or}
use Rattle.std.specs.List.{list_any}
use Rattle.ucd_points.specs.Bounds.{Bounds}
use Rattle.ucd_facts.specs.Facts.{within}
use Rattle.fact_tables.specs.JoinedSpans.{BeginsUpTo, HoldsBack, is_in}
use Rattle.fact_tables.proofs.joined_spans.disjoint_spans.Given as goal

-- the spans before this one are put, but for the last one, which is apart from the others and does not begin behind this one
abbrev pub invariant-spans : goal.invariant-spans
invariant-spans l = record {
  covered : (c : ℕ) → (list_any (within c) l.all || is_in l.before c) ≡ list_any (within c) (take l.span-index l.span-items);
  apart : HoldsBack l.all l.before;
  begins : (d : Bounds) → l.span-index < length l.span-items → BeginsUpTo l.before (get_or l.span-items l.span-index d).lo;
}
