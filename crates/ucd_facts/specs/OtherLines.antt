-- Which lines of the files beside UnicodeData.txt stand for which rows. UAX #44, section 4.2, and the heads of the files.
-- ReadsValue fs row         PropList.txt, Scripts.txt, WordBreakProperty.txt: a span, and a name as the value
-- ReadsExclusion fs row     CompositionExclusions.txt: a span
-- FoldsTo status n          a folding of the status has n code points: one for C and S, one or more for F and T
-- ReadsFold fs row          CaseFolding.txt: a code point, a status, a mapping with as many code points as the status has, and an
--                           empty field or none behind them
-- ReadsCasing fs row        SpecialCasing.txt: a code point, its lower, title and upper mapping, each possibly empty, conditions
--                           or none, and an empty field or none behind them
-- is_name_or_empty bs       a name, or no bytes
-- ReadsAlias least fs row   PropertyAliases.txt from two names on, PropertyValueAliases.txt from three on; a name after the first
--                           may be empty
use Rattle.std.specs.Prelude.{◌≡◌, ◌⊎◌, ℕ, ◌<◌, ◌≤◌, Bool, true, List, [], ◌∷◌, length, Some}
use Rattle.std.specs.List.{list_all}
use Rattle.ucd_facts.specs.Names.{status_of}
use Rattle.ucd_points.specs.Fields.{field, point_of, SpellsSpan, is_name}
use Rattle.ucd_facts.specs.Mappings.{SpellsMapping, conditions_of}
use Rattle.ucd_facts.specs.declared.row.FoldStatus.{FoldStatus}
use Rattle.ucd_facts.specs.declared.row.FoldStatus.TheVariants.{C, F, S, T}
use Rattle.ucd_facts.specs.declared.row.ValueRow.{ValueRow}
use Rattle.ucd_facts.specs.declared.row.ExclusionRow.{ExclusionRow}
use Rattle.ucd_facts.specs.declared.row.FoldRow.{FoldRow}
use Rattle.ucd_facts.specs.declared.row.CasingRow.{CasingRow}
use Rattle.ucd_facts.specs.declared.row.AliasRow.{AliasRow}

pub record ReadsValue (fs : List (List ℕ)) (row : ValueRow) : Type 0 where
  pub count : length fs ≡ 2
  pub span : SpellsSpan (field fs 0) row.span
  pub name : is_name (field fs 1) ≡ true
  pub value : row.value ≡ field fs 1

pub record ReadsExclusion (fs : List (List ℕ)) (row : ExclusionRow) : Type 0 where
  pub count : length fs ≡ 1
  pub span : SpellsSpan (field fs 0) row.span

abbrev pub FoldsTo : FoldStatus → ℕ → Type 0
FoldsTo C n = n ≡ 1
FoldsTo S n = n ≡ 1
FoldsTo F n = 0 < n
FoldsTo T n = 0 < n

pub record ReadsFold (fs : List (List ℕ)) (row : FoldRow) : Type 0 where
  pub count : (length fs ≡ 3) ⊎ (length fs ≡ 4) × (field fs 3 ≡ [])
  pub code : point_of (field fs 0) ≡ Some row.code
  pub status : status_of (field fs 1) ≡ Some row.status
  pub mapping : SpellsMapping (field fs 2) row.mapping
  pub length_fits : FoldsTo row.status (length row.mapping)

pub record ReadsCasing (fs : List (List ℕ)) (row : CasingRow) : Type 0 where
  pub least : 4 ≤ length fs
  pub most : length fs ≤ 6
  pub nothing_behind : field fs 5 ≡ []
  pub code : point_of (field fs 0) ≡ Some row.code
  pub lower : SpellsMapping (field fs 1) row.lower
  pub title : SpellsMapping (field fs 2) row.title
  pub upper : SpellsMapping (field fs 3) row.upper
  pub conditions : conditions_of (field fs 4) ≡ Some row.conditions

abbrev pub is_name_or_empty : List ℕ → Bool
is_name_or_empty [] = true
is_name_or_empty (b ∷ bs) = is_name (b ∷ bs)

pub record ReadsAlias (least : ℕ) (fs : List (List ℕ)) (row : AliasRow) : Type 0 where
  pub count : least ≤ length fs
  pub first : is_name (field fs 0) ≡ true
  pub others : list_all is_name_or_empty fs ≡ true
  pub names : row.names ≡ fs
