-- The row values that a file can have.
-- IsPoint c                 a number of at most 10FFFF
-- IsSpan s                  its first code point is at most its last, and that is at most 10FFFF
-- IsMapping cs              at most 64 code points, each of at most 10FFFF
-- IsTrimmed bs              no white space at either end
-- IsKept bs                 trimmed, without `;` and LF
-- IsValueName bs            a name, trimmed, without `#`
--
-- UnicodeData.txt
-- DecompositionOk kind cs   no code points for Plain; one or two for Canonical; one or more, at most 64, for a tag
-- CaseOk c                  a code point of at most 10FFFF, or none
-- SingleOk row              one code point; a name, trimmed, that is not that of a range
-- NameOk range row          of a range, the label is a name; of a single line, SingleOk
-- DataOk row                a span, NameOk, another category than Cn, a class of at most 254, DecompositionOk, CaseOk of the
--                           three simple case mappings, and IsKept of the fields that are kept
--
-- The other files
-- ValueOk row               a span, and a value that is IsValueName
-- ExclusionOk row           a span
-- FoldOk row                a code point, and a mapping of at most 64 code points, with as many code points as its status has:
--                           one for C and S, else one or more
-- CasingOk row              a code point; three mappings, each possibly empty; conditions with one space between words, without
--                           `;` and `#`, or none
-- IsAliasName bs            a name or nothing, trimmed, without `#`
-- AliasOk least row         at least so many names, each IsAliasName, the first not empty
-- RowOk file row            the row is one of the file's kind, and Ok as above (alias rows with two names, or three); it is what
--                           some bytes of the file are read as
use Rattle.std.specs.Prelude.{◌≡◌, ◌≢◌, ℕ, ◌<◌, ◌≤◌, Bool, true, false, List, [], length, Option, Some, None}
use Rattle.std.specs.List.{All, list_any}
use Rattle.ucd_points.specs.Bounds.{Bounds}
use Rattle.ucd_points.specs.Lines.{holds_line_feed}
use Rattle.ucd_points.specs.Fields.{trim, field, is_semicolon, is_hash, is_name, is_range_name}
use Rattle.ucd_facts.specs.Mappings.{conditions_of}
use Rattle.ucd_facts.specs.OtherLines.{FoldsTo, is_name_or_empty}
use Rattle.ucd_facts.specs.declared.category.Category.TheVariants.{Cn}
use Rattle.ucd_facts.specs.declared.decomposition.Kind.{Kind}
use Rattle.ucd_facts.specs.declared.decomposition.Kind.TheVariants.{Plain, Canonical, Compat}
use Rattle.ucd_points.specs.declared.files.SourceFile.{SourceFile}
use Rattle.ucd_points.specs.declared.files.SourceFile.TheVariants.{UnicodeData, PropList, Scripts, WordBreakProperty, CompositionExclusions, CaseFolding, SpecialCasing, PropertyAliases, PropertyValueAliases}
use Rattle.ucd_facts.specs.declared.row.DataRow.{DataRow}
use Rattle.ucd_facts.specs.declared.row.ValueRow.{ValueRow}
use Rattle.ucd_facts.specs.declared.row.ExclusionRow.{ExclusionRow}
use Rattle.ucd_facts.specs.declared.row.FoldRow.{FoldRow}
use Rattle.ucd_facts.specs.declared.row.CasingRow.{CasingRow}
use Rattle.ucd_facts.specs.declared.row.AliasRow.{AliasRow}
use Rattle.ucd_facts.specs.declared.row.Row.{Row}
use Rattle.ucd_facts.specs.declared.row.Row.TheVariants.{Unit as DataLine, Value as ValueLine, Exclusion as ExclusionLine, Fold as FoldLine, Casing as CasingLine, Alias as AliasLine, Missing as MissingLine}

abbrev pub IsPoint : ℕ → Type 0
IsPoint c = c < 1114112

abbrev pub IsSpan : Bounds → Type 0
IsSpan s = (s.lo ≤ s.hi) × IsPoint s.hi

abbrev pub IsMapping : List ℕ → Type 0
IsMapping cs = All IsPoint cs × (length cs ≤ 64)

abbrev pub IsTrimmed : List ℕ → Type 0
IsTrimmed bs = trim bs ≡ bs

pub record IsKept (bs : List ℕ) : Type 0 where
  pub trimmed : IsTrimmed bs
  pub no_semicolon : list_any is_semicolon bs ≡ false
  pub no_feed : holds_line_feed bs ≡ false

pub record IsValueName (bs : List ℕ) : Type 0 where
  pub name : is_name bs ≡ true
  pub trimmed : IsTrimmed bs
  pub no_hash : list_any is_hash bs ≡ false

-- ---- UnicodeData.txt

abbrev pub DecompositionOk : Kind → List ℕ → Type 0
DecompositionOk Plain cs = cs ≡ []
DecompositionOk Canonical cs = All IsPoint cs × (0 < length cs) × (length cs ≤ 2)
DecompositionOk (Compat tag) cs = IsMapping cs × (0 < length cs)

abbrev pub CaseOk : Option ℕ → Type 0
CaseOk None = Unit {0}
CaseOk (Some c) = IsPoint c

pub record SingleOk (row : DataRow) : Type 0 where
  pub one : row.span.hi ≡ row.span.lo
  pub name : is_name row.name ≡ true
  pub trimmed : IsTrimmed row.name
  pub no_range : is_range_name row.name ≡ false

abbrev pub NameOk : Bool → DataRow → Type 0
NameOk false row = SingleOk row
NameOk true row = is_name row.name ≡ true

pub record DataOk (row : DataRow) : Type 0 where
  pub span : IsSpan row.span
  pub name : NameOk row.range row
  pub category : row.category ≢ Cn
  pub class : row.class ≤ 254
  pub decomposition : DecompositionOk row.kind row.mapping
  pub upper : CaseOk row.upper
  pub lower : CaseOk row.lower
  pub title : CaseOk row.title
  pub f4 : IsKept row.kept.f4
  pub f6 : IsKept row.kept.f6
  pub f7 : IsKept row.kept.f7
  pub f8 : IsKept row.kept.f8
  pub f9 : IsKept row.kept.f9
  pub f10 : IsKept row.kept.f10
  pub f11 : IsKept row.kept.f11

-- ---- the other files

pub record ValueOk (row : ValueRow) : Type 0 where
  pub span : IsSpan row.span
  pub value : IsValueName row.value

abbrev pub ExclusionOk : ExclusionRow → Type 0
ExclusionOk row = IsSpan row.span

pub record FoldOk (row : FoldRow) : Type 0 where
  pub code : IsPoint row.code
  pub mapping : IsMapping row.mapping
  pub length_fits : FoldsTo row.status (length row.mapping)

pub record CasingOk (row : CasingRow) : Type 0 where
  pub code : IsPoint row.code
  pub lower : IsMapping row.lower
  pub title : IsMapping row.title
  pub upper : IsMapping row.upper
  pub conditions : conditions_of row.conditions ≡ Some row.conditions
  pub no_semicolon : list_any is_semicolon row.conditions ≡ false
  pub no_hash : list_any is_hash row.conditions ≡ false

pub record IsAliasName (bs : List ℕ) : Type 0 where
  pub name : is_name_or_empty bs ≡ true
  pub trimmed : IsTrimmed bs
  pub no_hash : list_any is_hash bs ≡ false

pub record AliasOk (least : ℕ) (row : AliasRow) : Type 0 where
  pub count : least ≤ length row.names
  pub first : is_name (field row.names 0) ≡ true
  pub each : All IsAliasName row.names

abbrev pub RowOk : SourceFile → Row → Type 0
RowOk UnicodeData (DataLine row) = DataOk row
RowOk PropList (ValueLine row) = ValueOk row
RowOk Scripts (ValueLine row) = ValueOk row
RowOk WordBreakProperty (ValueLine row) = ValueOk row
RowOk Scripts (MissingLine row) = ValueOk row
RowOk WordBreakProperty (MissingLine row) = ValueOk row
RowOk CompositionExclusions (ExclusionLine row) = ExclusionOk row
RowOk CaseFolding (FoldLine row) = FoldOk row
RowOk SpecialCasing (CasingLine row) = CasingOk row
RowOk PropertyAliases (AliasLine row) = AliasOk 2 row
RowOk PropertyValueAliases (AliasLine row) = AliasOk 3 row
RowOk _ _ = ⊥
