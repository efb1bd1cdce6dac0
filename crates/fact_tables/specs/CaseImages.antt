-- The images of all cases.
--
-- cases_at images c           the images of c; none where nothing is kept of c
-- cases_from foldings casings   the foldings of the one, and the casings of the other
use Rattle.std.specs.Prelude.{ℕ}
use Rattle.std.specs.BTreeMap.{BTreeMap, get}
use Rattle.std.specs.Box.{box_value}
use Rattle.std.specs.Global.{Box}
use Rattle.std.specs.Option.{option_map}
use Rattle.std.specs.Ordering.{nat_cmp}
use Rattle.fact_tables.specs.Rest.{cases_of}
use Rattle.fact_tables.specs.declared.cases.Cases.{Cases}

abbrev pub cases_at : BTreeMap ℕ (Box Cases) → ℕ → Cases
cases_at images c = cases_of (option_map box_value (get nat_cmp images c))

abbrev pub cases_from : Cases → Cases → Cases
cases_from foldings casings = record {
  common = foldings.common;
  full = foldings.full;
  simple = foldings.simple;
  lower = casings.lower;
  title = casings.title;
  upper = casings.upper;
}
