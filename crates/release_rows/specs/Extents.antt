-- Where rows lie: the names of a row's key, and the code points from the one in its key on.
-- Extent                  names, and the code points from first to last, both of them in it
-- same_start a b          the names are the same, and the first code points: the rows have the same key
-- meets a b               the names are the same, and the extents share a code point
-- conflict_with above x   the rule that x breaks against the extents above it: K1 comes before K4; None where it breaks none
use Rattle.std.specs.Prelude.{ℕ, Bool, ◌&&◌, List, Option, Some, None, ◌==◌, nat_le, if◌then◌else◌}
use Rattle.std.specs.List.{list_any}
use Rattle.source_rows.specs.Keys.{same_texts}
use Rattle.release_rows.specs.declared.conflict.Conflict.{Conflict}
use Rattle.release_rows.specs.declared.conflict.Conflict.TheVariants.{K1, K4}

pub record Extent : Type 0 where
  pub names : List (List ℕ)
  pub first : ℕ
  pub last : ℕ

abbrev pub same_start : Extent → Extent → Bool
same_start a b = same_texts a.names b.names && (a.first == b.first)

abbrev pub meets : Extent → Extent → Bool
meets a b = same_texts a.names b.names && (nat_le a.first b.last && nat_le b.first a.last)

abbrev pub conflict_with : List Extent → Extent → Option Conflict
conflict_with above x = if list_any (same_start x) above then Some K1 else (if list_any (meets x) above then Some K4 else None)
