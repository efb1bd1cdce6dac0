-- The report of all breaks of the stability policies.
-- names_in row             the names of a row of an alias file; none of another row
-- keeps_first file a b     in PropertyValueAliases.txt the first names of the two rows, which name the property, are the same; in
--                          another file nothing is asked of them
-- keeps_names file a b     the row with the names b keeps those of the row with the names a: all of them are among b, and keeps_first
-- is_lost file rows row    no row of the new file keeps the names of the row of the old file
-- lost_rows file old new   the breaks of P17: a row of the old file that is lost, by its line
-- point_breaks P old new   the breaks of another policy, by code point
-- breaks_of P old new      the breaks of a policy, where old and new are the items of the two releases; those of P17 file by file
-- report old new           all breaks, by policy
-- is_of P b                b is a break of the policy P
use Rattle.std.specs.Prelude.{ℕ, Bool, true, false, ◌&&◌, not, List, [], ◌∷◌, ◌++◌, ◌==◌, map, filter, bytes_eq}
use Rattle.std.specs.List.{flat_map, list_all, list_any, range_with_len}
use Rattle.release_rows.specs.Releases.{ReleaseItems, items_now, rows_at, rows_now}
use Rattle.ucd_points.specs.Limits.{point_count}
use Rattle.ucd_points.specs.declared.files.SourceFile.{SourceFile}
use Rattle.ucd_points.specs.declared.files.SourceFile.TheVariants.{PropertyAliases, PropertyValueAliases}
use Rattle.ucd_facts.specs.declared.row.Row.{Row}
use Rattle.ucd_facts.specs.declared.row.Row.TheVariants.{Alias as AliasLine}
use Rattle.stability_policies.specs.Policies.{is_broken, place_of_policy, policies}
use Rattle.stability_policies.specs.declared.breaks.Break.{Break}
use Rattle.stability_policies.specs.declared.breaks.Break.TheVariants.{At, Alias}
use Rattle.stability_policies.specs.declared.policy.Policy.{Policy}
use Rattle.stability_policies.specs.declared.policy.Policy.TheVariants.{P17}

-- ---- rows of alias files

abbrev pub names_in : Row → List (List ℕ)
names_in (AliasLine row) = row.names
names_in _ = []

abbrev pub same_first : List (List ℕ) → List (List ℕ) → Bool
same_first (a ∷ _) (b ∷ _) = bytes_eq a b
same_first [] [] = true
same_first _ _ = false

abbrev pub keeps_first : SourceFile → List (List ℕ) → List (List ℕ) → Bool
keeps_first PropertyValueAliases a b = same_first a b
keeps_first _ a b = true

abbrev pub keeps_names : SourceFile → List (List ℕ) → List (List ℕ) → Bool
keeps_names file a b = keeps_first file a b && list_all (λ name. list_any (bytes_eq name) b) a

abbrev pub is_lost : SourceFile → List (ℕ × Row) → Row → Bool
is_lost file rows row = not (list_any (λ r. keeps_names file (names_in row) (names_in r.1)) rows)

abbrev pub lost_rows : SourceFile → List (ℕ × Row) → List (ℕ × Row) → List Break
lost_rows file old new = map (λ r. Alias file r.0) (filter (λ r. is_lost file new r.1) old)

abbrev pub lost_in : SourceFile → ReleaseItems → ReleaseItems → List Break
lost_in file old new = lost_rows file (rows_at (items_now old file)) (rows_at (items_now new file))

-- ---- the report

abbrev pub point_breaks : Policy → ReleaseItems → ReleaseItems → List Break
point_breaks policy old new = map (At policy) (filter (is_broken policy (rows_now old) (rows_now new)) (range_with_len 0 point_count))

abbrev pub breaks_of : Policy → ReleaseItems → ReleaseItems → List Break
breaks_of P17 old new = lost_in PropertyAliases old new ++ lost_in PropertyValueAliases old new
breaks_of policy old new = point_breaks policy old new

unfoldable pub report : ReleaseItems → ReleaseItems → List Break
report old new = flat_map (λ policy. breaks_of policy old new) policies

-- ---- what a report lists

abbrev pub is_of : Policy → Break → Bool
is_of policy (At other point) = place_of_policy other == place_of_policy policy
is_of policy (Alias file line) = place_of_policy P17 == place_of_policy policy
