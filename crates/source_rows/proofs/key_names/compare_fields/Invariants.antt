use Rattle.std.proofs.Common.{◌≡◌, take}
use Rattle.source_rows.specs.KeyNames.{names_cmp}
use Rattle.source_rows.proofs.key_names.compare_fields.Given as goal

-- the names that are left against the fields that are left are all names against all fields
abbrev pub invariant-names : goal.invariant-names
invariant-names l = names_cmp l.left (take l.count l.fields) ≡ names_cmp l.names (take l.initial.count l.initial.fields)

abbrev pub decreases-names : goal.decreases-names
decreases-names l = l.count
