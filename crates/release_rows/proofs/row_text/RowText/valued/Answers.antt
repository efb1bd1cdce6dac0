use Rattle.std.proofs.Common.{◌≡◌, true, false, None, sym, ◌∙◌}
use Rattle.ucd_facts.specs.RowValues.{RowOk}
use Rattle.ucd_points.specs.declared.files.SourceFile.{SourceFile}
use Rattle.ucd_points.specs.declared.files.SourceFile.TheVariants.{UnicodeData, PropList, Scripts, WordBreakProperty, CompositionExclusions, CaseFolding, SpecialCasing, PropertyAliases, PropertyValueAliases}
use Rattle.ucd_facts.specs.declared.row.Row.{Row}
use Rattle.ucd_facts.specs.declared.row.Row.TheVariants.{Unit as DataLine, Value as ValueLine, Exclusion as ExclusionLine, Fold as FoldLine, Casing as CasingLine, Alias as AliasLine, Missing as MissingLine}
use Rattle.source_rows.specs.RowRefs.{has_values}
use Rattle.release_rows.specs.StoredItems.{ShowsValued, read_as}
use Rattle.release_rows.proofs.row_text.RowText.valued.Goals as goal

-- a row of a file whose rows give no values is none with a value
no_value : (file : SourceFile) (row : Row) → has_values file ≡ false → RowOk file row → ShowsValued None row
no_value file (DataLine row) h ok = tt
no_value file (ExclusionLine row) h ok = tt
no_value file (FoldLine row) h ok = tt
no_value file (CasingLine row) h ok = tt
no_value file (AliasLine row) h ok = tt
no_value PropList (ValueLine row) h ok = (let k : true ≡ false = h in cc)
no_value Scripts (ValueLine row) h ok = (let k : true ≡ false = h in cc)
no_value WordBreakProperty (ValueLine row) h ok = (let k : true ≡ false = h in cc)
no_value UnicodeData (ValueLine row) h ok = absurd ok
no_value CompositionExclusions (ValueLine row) h ok = absurd ok
no_value CaseFolding (ValueLine row) h ok = absurd ok
no_value SpecialCasing (ValueLine row) h ok = absurd ok
no_value PropertyAliases (ValueLine row) h ok = absurd ok
no_value PropertyValueAliases (ValueLine row) h ok = absurd ok
no_value Scripts (MissingLine row) h ok = (let k : true ≡ false = h in cc)
no_value WordBreakProperty (MissingLine row) h ok = (let k : true ≡ false = h in cc)
no_value PropList (MissingLine row) h ok = absurd ok
no_value UnicodeData (MissingLine row) h ok = absurd ok
no_value CompositionExclusions (MissingLine row) h ok = absurd ok
no_value CaseFolding (MissingLine row) h ok = absurd ok
no_value SpecialCasing (MissingLine row) h ok = absurd ok
no_value PropertyAliases (MissingLine row) h ok = absurd ok
no_value PropertyValueAliases (MissingLine row) h ok = absurd ok

pub returns-then-not-has_values : goal.returns-then-not-has_values
returns-then-not-has_values c =
    let file = c.self.inside.file in
    let bytes = c.self.inside.content.now in
    let row = read_as file bytes in
    let ok : RowOk file row = (c.possible_rows_are_readable.ensures file row).1 (bytes, (c.rows_are_read.ensures file bytes row).0 c.self.invariant.read) in
    rw (← c.self.view_is) (no_value file row (sym c.has_values.ensures ∙ c.if-not-has_values.true) ok)
