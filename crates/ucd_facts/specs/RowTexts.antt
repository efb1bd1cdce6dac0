-- The text that a row is written as.
-- mapping_text cs              code points with one space between them
-- spaced cs                    code points, each with a space before it
-- decomposition_text kind cs   field 5 of UnicodeData.txt: nothing, the mapping, or a tag, a space and the mapping
-- case_text c                  nothing, or the code point
-- value_fields row             fields 2 to 14 of UnicodeData.txt
-- data_line row c name         the 15 fields of UnicodeData.txt, joined by `;`, with this code point and this name
-- first_name label             `<LABEL, First>`
-- last_name label              `<LABEL, Last>`
-- range_text row               the first line of a range, LF, and the last line, with the same fields 2 to 14
-- data_text row                the line of a row of UnicodeData.txt, with its one code point and its name; of a range those two
--                              lines
-- value_text row               a row of PropList.txt, Scripts.txt or WordBreakProperty.txt: the span and the value, with ` ; `
--                              between
-- missing_text row             a missing row of Scripts.txt or WordBreakProperty.txt: `# @missing: `, the span and the value, with
--                              `; ` between
-- exclusion_text row           a row of CompositionExclusions.txt: the span
-- fold_text row                a row of CaseFolding.txt: the code point, the status and the mapping, with `; ` between and `;` at
--                              the end
-- conditions_text bs           a space, the conditions and `;`; nothing where there are none
-- casing_text row              a row of SpecialCasing.txt: the code point, its lower, title and upper mapping, with `; ` between
--                              and `;` at the end, and then the conditions
-- names_text ns                the names with ` ; ` between them; nothing for no names
-- alias_text row               a row of PropertyAliases.txt or PropertyValueAliases.txt: its names
-- row_text file row            the text of a row, by its kind alone: the file plays no part
use Rattle.std.specs.Prelude.{ℕ, List, [], ◌∷◌, ◌++◌, map, Option, Some, None, codes, if◌then◌else◌, decimal}
use Rattle.std.specs.List.{flat_map, join_with_byte}
use Rattle.ucd_facts.specs.Names.{category_code, status_code, tag_text}
use Rattle.ucd_points.specs.HexText.{hex_text, span_text}
use Rattle.ucd_points.specs.declared.files.SourceFile.{SourceFile}
use Rattle.ucd_facts.specs.declared.decomposition.Kind.{Kind}
use Rattle.ucd_facts.specs.declared.decomposition.Kind.TheVariants.{Plain, Canonical, Compat}
use Rattle.ucd_facts.specs.declared.row.DataRow.{DataRow}
use Rattle.ucd_facts.specs.declared.row.ValueRow.{ValueRow}
use Rattle.ucd_facts.specs.declared.row.ExclusionRow.{ExclusionRow}
use Rattle.ucd_facts.specs.declared.row.FoldRow.{FoldRow}
use Rattle.ucd_facts.specs.declared.row.CasingRow.{CasingRow}
use Rattle.ucd_facts.specs.declared.row.AliasRow.{AliasRow}
use Rattle.ucd_facts.specs.declared.row.Row.{Row}
use Rattle.ucd_facts.specs.declared.row.Row.TheVariants.{Unit as DataLine, Value as ValueLine, Exclusion as ExclusionLine, Fold as FoldLine, Casing as CasingLine, Alias as AliasLine, Missing as MissingLine}

unfoldable pub mapping_text : List ℕ → List ℕ
mapping_text cs = join_with_byte 32 (map hex_text cs)

abbrev pub spaced : List ℕ → List ℕ
spaced cs = flat_map (λ c. 32 ∷ hex_text c) cs

-- ---- UnicodeData.txt

abbrev pub decomposition_text : Kind → List ℕ → List ℕ
decomposition_text Plain cs = []
decomposition_text Canonical cs = mapping_text cs
decomposition_text (Compat tag) cs = tag_text tag ++ 32 ∷ mapping_text cs

abbrev pub case_text : Option ℕ → List ℕ
case_text None = []
case_text (Some c) = hex_text c

abbrev pub value_fields : DataRow → List (List ℕ)
value_fields row = category_code row.category ∷ decimal row.class ∷ row.kept.f4 ∷ decomposition_text row.kind row.mapping ∷ row.kept.f6 ∷ row.kept.f7 ∷ row.kept.f8 ∷ row.kept.f9 ∷ row.kept.f10 ∷ row.kept.f11 ∷ case_text row.upper ∷ case_text row.lower ∷ case_text row.title ∷ []

unfoldable pub data_line : DataRow → ℕ → List ℕ → List ℕ
data_line row c name = join_with_byte 59 (hex_text c ∷ name ∷ value_fields row)

abbrev pub first_name : List ℕ → List ℕ
first_name label = codes "<" ++ label ++ codes ", First>"

abbrev pub last_name : List ℕ → List ℕ
last_name label = codes "<" ++ label ++ codes ", Last>"

abbrev pub range_text : DataRow → List ℕ
range_text row = data_line row row.span.lo (first_name row.name) ++ 10 ∷ data_line row row.span.hi (last_name row.name)

abbrev pub data_text : DataRow → List ℕ
data_text row = if row.range then range_text row else data_line row row.span.lo row.name

-- ---- the other files

abbrev pub value_text : ValueRow → List ℕ
value_text row = span_text row.span ++ codes " ; " ++ row.value

abbrev pub missing_text : ValueRow → List ℕ
missing_text row = codes "# @missing: " ++ span_text row.span ++ codes "; " ++ row.value

abbrev pub exclusion_text : ExclusionRow → List ℕ
exclusion_text row = span_text row.span

abbrev pub fold_text : FoldRow → List ℕ
fold_text row = hex_text row.code ++ codes "; " ++ status_code row.status ∷ codes "; " ++ mapping_text row.mapping ++ codes ";"

abbrev pub conditions_text : List ℕ → List ℕ
conditions_text [] = []
conditions_text (b ∷ bs) = codes " " ++ (b ∷ bs) ++ codes ";"

abbrev pub casing_text : CasingRow → List ℕ
casing_text row = hex_text row.code ++ codes "; " ++ mapping_text row.lower ++ codes "; " ++ mapping_text row.title ++ codes "; " ++ mapping_text row.upper ++ codes ";" ++ conditions_text row.conditions

abbrev pub names_text : List (List ℕ) → List ℕ
names_text [] = []
names_text (name ∷ []) = name
names_text (name ∷ next ∷ names) = name ++ codes " ; " ++ names_text (next ∷ names)

abbrev pub alias_text : AliasRow → List ℕ
alias_text row = names_text row.names

abbrev pub row_text : SourceFile → Row → List ℕ
row_text file (DataLine row) = data_text row
row_text file (ValueLine row) = value_text row
row_text file (ExclusionLine row) = exclusion_text row
row_text file (FoldLine row) = fold_text row
row_text file (CasingLine row) = casing_text row
row_text file (AliasLine row) = alias_text row
row_text file (MissingLine row) = missing_text row
