-- What is kept of what the row of an item gives to its code points.
-- no_brief                    nothing is kept: category Cn, which no row gives
-- is_plain kind mapping       there is no decomposition mapping
-- is_bare plain upper lower title   nor a simple case mapping
-- brief_if bare category class      the category and the combining class, if the row gives no more; else nothing is kept
-- brief_by ..                 what is kept of a row of UnicodeData.txt that gives these values
-- brief_of row                what is kept of a row; nothing of a row of another file, and of trivia
use Rattle.std.specs.Prelude.{ℕ, Bool, true, false, ◌&&◌, not, List, [], Option, Some, is_some, if◌then◌else◌}
use Rattle.ucd_facts.specs.declared.category.Category.{Category}
use Rattle.ucd_facts.specs.declared.category.Category.TheVariants.{Cn}
use Rattle.ucd_facts.specs.declared.decomposition.Kind.{Kind}
use Rattle.ucd_facts.specs.declared.decomposition.Kind.TheVariants.{Plain}
use Rattle.ucd_facts.specs.declared.row.Row.{Row}
use Rattle.ucd_facts.specs.declared.row.Row.TheVariants.{Unit as DataLine}
use Rattle.release_rows.specs.declared.brief.Brief.{Brief}

abbrev pub no_brief : Brief
no_brief = record { category = Cn; class = 0 }

abbrev pub is_plain : Kind → List ℕ → Bool
is_plain Plain [] = true
is_plain _ _ = false

abbrev pub is_bare : Bool → Option ℕ → Option ℕ → Option ℕ → Bool
is_bare plain upper lower title = plain && (not (is_some upper) && (not (is_some lower) && not (is_some title)))

abbrev pub brief_if : Bool → Category → ℕ → Brief
brief_if bare category class = if bare then record { category = category; class = class } else no_brief

abbrev pub brief_by : Category → ℕ → Kind → List ℕ → Option ℕ → Option ℕ → Option ℕ → Brief
brief_by category class kind mapping upper lower title = brief_if (is_bare (is_plain kind mapping) upper lower title) category class

abbrev pub brief_of : Option Row → Brief
brief_of (Some (DataLine row)) = brief_by row.category row.class row.kind row.mapping row.upper row.lower row.title
brief_of _ = no_brief
