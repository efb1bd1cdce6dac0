-- Which bytes stand for which rows. UAX #44, sections 4.2 and 5.3.
-- ReadsLine file content row   a line's content stands for the row, by the fields of the line; never for a row of another file's
--                              kind. A line `# @missing:` of Scripts.txt and WordBreakProperty.txt stands for a missing row
-- ReadsRange bytes row         two lines of UnicodeData.txt, LF or CR LF between them, stand for a range
-- IsRange file bytes row       the same of any file: none but UnicodeData.txt has ranges
-- Reads file bytes row         the bytes are such a line, without a LF, or such two lines
use Rattle.std.specs.Prelude.{◌≡◌, ◌⊎◌, ℕ, true, false, List, ◌∷◌, ◌++◌}
use Rattle.ucd_points.specs.Lines.{holds_line_feed, without_return}
use Rattle.ucd_points.specs.MissingLines.{is_missing}
use Rattle.ucd_points.specs.Fields.{fields}
use Rattle.ucd_facts.specs.DataLines.{ReadsSingle, ReadsPair}
use Rattle.ucd_facts.specs.OtherLines.{ReadsValue, ReadsExclusion, ReadsFold, ReadsCasing, ReadsAlias}
use Rattle.ucd_points.specs.declared.files.SourceFile.{SourceFile}
use Rattle.ucd_points.specs.declared.files.SourceFile.TheVariants.{UnicodeData, PropList, Scripts, WordBreakProperty, CompositionExclusions, CaseFolding, SpecialCasing, PropertyAliases, PropertyValueAliases}
use Rattle.ucd_facts.specs.declared.row.DataRow.{DataRow}
use Rattle.ucd_facts.specs.declared.row.Row.{Row}
use Rattle.ucd_facts.specs.declared.row.Row.TheVariants.{Unit as DataLine, Value as ValueLine, Exclusion as ExclusionLine, Fold as FoldLine, Casing as CasingLine, Alias as AliasLine, Missing as MissingLine}

abbrev pub ReadsLine : SourceFile → List ℕ → Row → Type 0
ReadsLine UnicodeData content (DataLine row) = ReadsSingle (fields UnicodeData content) row
ReadsLine PropList content (ValueLine row) = ReadsValue (fields PropList content) row
ReadsLine Scripts content (ValueLine row) = (is_missing Scripts content ≡ false) × ReadsValue (fields Scripts content) row
ReadsLine WordBreakProperty content (ValueLine row) = (is_missing WordBreakProperty content ≡ false) × ReadsValue (fields WordBreakProperty content) row
ReadsLine Scripts content (MissingLine row) = (is_missing Scripts content ≡ true) × ReadsValue (fields Scripts content) row
ReadsLine WordBreakProperty content (MissingLine row) = (is_missing WordBreakProperty content ≡ true) × ReadsValue (fields WordBreakProperty content) row
ReadsLine CompositionExclusions content (ExclusionLine row) = ReadsExclusion (fields CompositionExclusions content) row
ReadsLine CaseFolding content (FoldLine row) = ReadsFold (fields CaseFolding content) row
ReadsLine SpecialCasing content (CasingLine row) = ReadsCasing (fields SpecialCasing content) row
ReadsLine PropertyAliases content (AliasLine row) = ReadsAlias 2 (fields PropertyAliases content) row
ReadsLine PropertyValueAliases content (AliasLine row) = ReadsAlias 3 (fields PropertyValueAliases content) row
ReadsLine _ _ _ = ⊥

-- what stands before the LF is the first line, with a CR at its end or without
pub record ReadsRange (bytes : List ℕ) (row : DataRow) : Type 0 where
  pub front : List ℕ
  pub last : List ℕ
  pub lines : bytes ≡ front ++ 10 ∷ last
  pub one_line : holds_line_feed front ≡ false
  pub other_line : holds_line_feed last ≡ false
  pub pair : ReadsPair (fields UnicodeData (without_return front)) (fields UnicodeData last) row

abbrev pub IsRange : SourceFile → List ℕ → Row → Type 0
IsRange UnicodeData bytes (DataLine row) = ReadsRange bytes row
IsRange _ _ _ = ⊥

abbrev pub Reads : SourceFile → List ℕ → Row → Type 0
Reads file bytes row = (holds_line_feed bytes ≡ false) × ReadsLine file bytes row ⊎ IsRange file bytes row
