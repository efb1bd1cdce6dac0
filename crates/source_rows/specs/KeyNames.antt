-- The names of a row's key and the name of its group, as they stand in the content of the row.
-- content_names file content   field 1 in PropList.txt and CaseFolding.txt; in SpecialCasing.txt the conditions of field 4, with one
--                              space between them, and no name where there are none; the first two fields in PropertyAliases.txt,
--                              the first three in PropertyValueAliases.txt; of a missing line those of its span; no names of the
--                              other lines
-- span_names s                 the names of a missing row of that span; no names where there is none
-- no_value                     `#`, which is in no value: the group of the missing rows, where no other row stands
-- content_group file content   field 1 in PropList.txt, Scripts.txt and WordBreakProperty.txt, but no_value of a missing line, and
--                              field 0 in PropertyValueAliases.txt; nothing in the other files
-- group_of file row            what the rows of a group share: the value in PropList.txt, Scripts.txt and WordBreakProperty.txt,
--                              but no_value of a missing row, the property in PropertyValueAliases.txt; nothing in the other files, whose rows are one group
-- has_code file                the rows of the file have code points: all files but PropertyAliases.txt and
--                              PropertyValueAliases.txt
-- names_cmp a b                the order of lists of names
-- AnswersContent file content row   the names of the row's key and the name of its group stand in the content, and it has a code
--                              point where the rows of its file have one
-- ContentsHaveKeys             so it is of each row and each content that it is read from
use Rattle.std.specs.Prelude.{◌≡◌, ℕ, Bool, true, false, List, [], ◌∷◌, take, Option, Some, None, Ok, is_some, if◌then◌else◌, codes}
use Rattle.std.specs.Cmp.Lexicographic.{slice_cmp}
use Rattle.std.specs.Ordering.{nat_cmp}
use Rattle.std.specs.declared.cmp.Ordering.{Ordering}
use Rattle.ucd_points.specs.Bounds.{Bounds}
use Rattle.ucd_points.specs.Fields.{fields, field, span_of}
use Rattle.ucd_points.specs.MissingLines.{is_missing}
use Rattle.ucd_facts.specs.Mappings.{spaced_words}
use Rattle.ucd_points.specs.declared.files.SourceFile.TheVariants.{PropList, Scripts, WordBreakProperty, CaseFolding, SpecialCasing, PropertyAliases, PropertyValueAliases}
use Rattle.ucd_facts.specs.declared.row.Row.TheVariants.{Value as ValueLine, Alias as AliasLine, Missing as MissingLine}
use Rattle.source_rows.specs.Faults.{row_or_fault}
use Rattle.source_rows.specs.Keys.{condition_names, missing_names, key_code, key_names, SourceFile, Row}

abbrev pub span_names : Option Bounds → List (List ℕ)
span_names (Some s) = missing_names s.hi
span_names None = []

abbrev pub content_names : SourceFile → List ℕ → List (List ℕ)
content_names PropList content = field (fields PropList content) 1 ∷ []
content_names CaseFolding content = field (fields CaseFolding content) 1 ∷ []
content_names SpecialCasing content = condition_names (spaced_words (field (fields SpecialCasing content) 4))
content_names PropertyAliases content = take 2 (fields PropertyAliases content)
content_names PropertyValueAliases content = take 3 (fields PropertyValueAliases content)
content_names Scripts content = if is_missing Scripts content then span_names (span_of (field (fields Scripts content) 0)) else []
content_names WordBreakProperty content = if is_missing WordBreakProperty content then span_names (span_of (field (fields WordBreakProperty content) 0)) else []
content_names _ content = []

abbrev pub no_value : List ℕ
no_value = codes "#"

abbrev pub content_group : SourceFile → List ℕ → List ℕ
content_group PropList content = field (fields PropList content) 1
content_group Scripts content = if is_missing Scripts content then no_value else field (fields Scripts content) 1
content_group WordBreakProperty content = if is_missing WordBreakProperty content then no_value else field (fields WordBreakProperty content) 1
content_group PropertyValueAliases content = field (fields PropertyValueAliases content) 0
content_group _ content = []

abbrev pub group_of : SourceFile → Row → List ℕ
group_of PropList (ValueLine row) = row.value
group_of Scripts (ValueLine row) = row.value
group_of WordBreakProperty (ValueLine row) = row.value
group_of Scripts (MissingLine row) = no_value
group_of WordBreakProperty (MissingLine row) = no_value
group_of PropertyValueAliases (AliasLine row) = field row.names 0
group_of _ _ = []

abbrev pub has_code : SourceFile → Bool
has_code PropertyAliases = false
has_code PropertyValueAliases = false
has_code _ = true

abbrev pub names_cmp : List (List ℕ) → List (List ℕ) → Ordering
names_cmp a b = slice_cmp (slice_cmp nat_cmp) a b

pub record AnswersContent (file : SourceFile) (content : List ℕ) (row : Row) : Type 0 where
  pub names : key_names file row ≡ content_names file content
  pub group : group_of file row ≡ content_group file content
  pub code : is_some (key_code row) ≡ has_code file

abbrev pub ContentsHaveKeys : Type 0
ContentsHaveKeys = (file : SourceFile) (content : List ℕ) (row : Row) → row_or_fault file content ≡ Ok row → AnswersContent file content row
