use Rattle.std.proofs.Common.{◌≡◌, None, refl}
use Rattle.ucd_facts.specs.RowValues.{RowOk}
use Rattle.ucd_points.specs.declared.files.SourceFile.{SourceFile}
use Rattle.ucd_points.specs.declared.files.SourceFile.TheVariants.{UnicodeData, PropList, Scripts, WordBreakProperty, CompositionExclusions, CaseFolding, SpecialCasing, PropertyAliases, PropertyValueAliases}
use Rattle.ucd_facts.specs.declared.row.Row.{Row}
use Rattle.ucd_facts.specs.declared.row.Row.TheVariants.{Unit as DataLine, Value as ValueLine, Exclusion as ExclusionLine, Fold as FoldLine, Casing as CasingLine, Alias as AliasLine, Missing as MissingLine}
use Rattle.release_rows.specs.Given.{ShowsGiven}
use Rattle.release_rows.specs.StoredItems.{read_as}
use Rattle.release_rows.proofs.row_text.RowText.point_values.Goals as goal

-- a row of another file is none of UnicodeData.txt
no_given : (file : SourceFile) (row : Row) → (file ≡ UnicodeData → ⊥) → RowOk file row → ShowsGiven None row
no_given file (ValueLine row) a ok = tt
no_given file (ExclusionLine row) a ok = tt
no_given file (FoldLine row) a ok = tt
no_given file (CasingLine row) a ok = tt
no_given file (AliasLine row) a ok = tt
no_given file (MissingLine row) a ok = tt
no_given UnicodeData (DataLine row) a ok = absurd (a refl)
no_given PropList (DataLine row) a ok = absurd ok
no_given Scripts (DataLine row) a ok = absurd ok
no_given WordBreakProperty (DataLine row) a ok = absurd ok
no_given CompositionExclusions (DataLine row) a ok = absurd ok
no_given CaseFolding (DataLine row) a ok = absurd ok
no_given SpecialCasing (DataLine row) a ok = absurd ok
no_given PropertyAliases (DataLine row) a ok = absurd ok
no_given PropertyValueAliases (DataLine row) a ok = absurd ok

pub returns-in_default-file : goal.returns-in_default-file
returns-in_default-file c =
    let file = c.self.inside.file in
    let bytes = c.self.inside.content.now in
    let row = read_as file bytes in
    let ok : RowOk file row = (c.possible_rows_are_readable.ensures file row).1 (bytes, (c.rows_are_read.ensures file bytes row).0 c.self.invariant.read) in
    rw (← c.self.view_is) (no_given file row c.in_default-file.not-UnicodeData ok)
