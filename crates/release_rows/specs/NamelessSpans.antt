-- The code points of rows without names, and the end of extents.
-- nameless_extent run       the extent of a row whose key has no names
-- is_from end x        the extent begins or ends at this number or behind it
-- AllBefore end above  no extent does
use Rattle.std.specs.Prelude.{◌≡◌, ℕ, Bool, false, ◌||◌, List, [], nat_le}
use Rattle.std.specs.List.{list_any}
use Rattle.release_rows.specs.Extents.{Extent}
use Rattle.release_rows.specs.declared.nameless_span.NamelessSpan.{NamelessSpan}

abbrev pub nameless_extent : NamelessSpan → Extent
nameless_extent run = record { names = []; first = run.first; last = run.last }

abbrev pub is_from : ℕ → Extent → Bool
is_from end x = nat_le end x.first || nat_le end x.last

abbrev pub AllBefore : ℕ → List Extent → Type 0
AllBefore end above = list_any (is_from end) above ≡ false
