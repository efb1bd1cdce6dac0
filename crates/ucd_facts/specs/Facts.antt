-- The facts of a code point, found by looking through the plain list of rows. UAX #44, sections 5.3, 5.6 and 5.7;
-- The Unicode Standard, sections 3.12 (Hangul) and 5.18 (case mappings).
-- Sources                          the rows of a release, file by file
-- Facts                            what is known of one code point: its category, class and mapping, its images, its properties
--                                  of PropList.txt, and whether it is assigned, a mid-word point, and excluded from composition
-- facts rows c                     the facts of c: those that the rows give, and past 10FFFF those of an unassigned point
-- given rows c                     what the rows give
-- given_by c row casing rows       the same, from the row of UnicodeData.txt and that of SpecialCasing.txt that were found, None
--                                  where there is none, with the rows of the other files
-- unassigned c                     no row: Cn, class 0, no mapping, no property, and every image the point itself
--
-- UnicodeData.txt
-- is_data_of c row                 a row of UnicodeData.txt that covers c; no row of another file does
-- data_in row                      the row that was found, as one of UnicodeData.txt; None where there is none, and for a row of
--                                  another file
-- data_row rows c                  the first row that covers c; None where none does
-- category_in row                  its category, else Cn
-- class_in row                     its class, else 0
-- is_plain kind                    the kind is Plain: there is no mapping
-- is_hangul_syllable c             c lies from AC00 to D7A3
-- maps_by_rule c row               c is a Hangul syllable, and its row has no mapping of its own: field 5 is empty
-- kind_in c row                    the kind of the row, else Plain; a Hangul syllable without a mapping of its own is Canonical
-- mapping_in c row                 its mapping, else none; a Hangul syllable without a mapping of its own has hangul_mapping
-- hangul_mapping c                 of a Hangul syllable, LV and T, or L and V where there is no T. The Unicode Standard,
--                                  section 3.12
-- s_base, l_base, v_base, t_base   AC00, the first syllable; 1100, the first leading consonant; 1161, the first vowel; and 11A7,
--                                  one before the first ending
-- t_count, n_count                 28, the endings with none among them; 588, the syllables of one leading consonant
-- upper_in c row                   its simple upper mapping, else c
-- lower_in c row                   its simple lower mapping, else c
-- title_in c row                   its simple title mapping, else upper_in; c where there is no row
--
-- SpecialCasing.txt
-- is_casing_of c row               a row of SpecialCasing.txt of c without conditions
-- casing_in row                    the row that was found, as one of SpecialCasing.txt; None where there is none, and for a row
--                                  of another file
-- casing_row rows c                the first row of c without conditions; None where there is none
-- image c points                   the image of c: Same where points is c alone, else To points
-- image_points c i                 the points of an image of c: c alone for Same
-- full_upper c simple row          the image under the row's upper mapping; where there is no row, under the simple mapping
-- full_lower c simple row          the same of the lower mapping
-- full_title c simple row          the same of the title mapping
--
-- CaseFolding.txt
-- status_place s                   the place of a status in the order C F S T, counted from 0
-- is_folding_of s c row            a row of CaseFolding.txt of c with the status s
-- folding_in row                   the mapping of the row that was found; None where there is none, and for a row of another file
-- folding rows status c            the mapping of the first row of c with that status; None where there is none
-- full_folding rows c              that of F, else that of C, else c alone
-- only_or c points                 the first of the points, which is the one point of a mapping of status C or S; c where there
--                                  is none
-- simple_folding rows c            the one point of S, else that of C, else c
--
-- Other files
-- gives_value value c row          a row with exactly this value that covers c: of PropList.txt, Scripts.txt or
--                                  WordBreakProperty.txt
-- flag_at rows f c                 whether some row of PropList.txt with exactly the name of f covers c
-- excludes c row                   a row of CompositionExclusions.txt that covers c
-- excluded_at rows c               whether some row of CompositionExclusions.txt covers c
use Rattle.std.specs.Prelude.{ℕ, ◌+◌, ◌-◌, ◌/◌, ◌%◌, Bool, true, false, ◌&&◌, List, [], ◌∷◌, Option, Some, None, is_some, unwrap_or, nat_lt, nat_le, ◌==◌, if◌then◌else◌, find, bytes_eq}
use Rattle.std.specs.List.{list_any}
pub use Rattle.ucd_points.specs.Bounds.{within}
use Rattle.ucd_points.specs.Bounds.{Bounds}
use Rattle.ucd_points.specs.Limits.{point_count}
use Rattle.ucd_facts.specs.Names.{flag_name}
use Rattle.ucd_facts.specs.Values.{mid_word_at}
use Rattle.ucd_facts.specs.declared.category.Category.{Category}
use Rattle.ucd_facts.specs.declared.category.Category.TheVariants.{Cn}
pub use Rattle.ucd_facts.specs.declared.decomposition.Kind.{Kind}
pub use Rattle.ucd_facts.specs.declared.decomposition.Kind.TheVariants.{Plain, Canonical, Compat}
use Rattle.ucd_facts.specs.declared.property.Flag.{Flag}
pub use Rattle.ucd_facts.specs.declared.image.Image.{Image}
pub use Rattle.ucd_facts.specs.declared.image.Image.TheVariants.{Same, To}
use Rattle.ucd_points.specs.declared.files.SourceFile.{SourceFile}
use Rattle.ucd_points.specs.declared.files.SourceFile.TheVariants.{UnicodeData, PropList, WordBreakProperty, CompositionExclusions, CaseFolding, SpecialCasing}
use Rattle.ucd_facts.specs.declared.row.DataRow.{DataRow}
use Rattle.ucd_facts.specs.declared.row.CasingRow.{CasingRow}
use Rattle.ucd_facts.specs.declared.row.FoldStatus.{FoldStatus}
use Rattle.ucd_facts.specs.declared.row.FoldStatus.TheVariants as status
use Rattle.ucd_facts.specs.declared.row.Row.{Row}
use Rattle.ucd_facts.specs.declared.row.Row.TheVariants.{Unit as DataLine, Value as ValueLine, Exclusion as ExclusionLine, Fold as FoldLine, Casing as CasingLine}

abbrev pub Sources : Type 0
Sources = SourceFile → List Row

pub record Facts : Type 0 where
  pub assigned : Bool
  pub category : Category
  pub class : ℕ
  pub kind : Kind
  pub mapping : List ℕ
  pub simple_upper : ℕ
  pub simple_lower : ℕ
  pub simple_title : ℕ
  pub simple_fold : ℕ
  pub upper : Image
  pub lower : Image
  pub title : Image
  pub fold : Image
  pub flag : Flag → Bool
  pub mid_word : Bool
  pub excluded : Bool

-- ---- UnicodeData.txt

abbrev pub is_data_of : ℕ → Row → Bool
is_data_of c (DataLine row) = within c row.span
is_data_of c _ = false

abbrev pub data_in : Option Row → Option DataRow
data_in (Some (DataLine row)) = Some row
data_in _ = None

abbrev pub data_row : List Row → ℕ → Option DataRow
data_row rows c = data_in (find (is_data_of c) rows)

abbrev pub category_in : Option DataRow → Category
category_in (Some row) = row.category
category_in None = Cn

abbrev pub class_in : Option DataRow → ℕ
class_in (Some row) = row.class
class_in None = 0

-- the syllables: 19 leading consonants, 21 vowels each, and 28 endings each, of which the first is none
abbrev pub s_base : ℕ
s_base = 0xAC00

abbrev pub l_base : ℕ
l_base = 0x1100

abbrev pub v_base : ℕ
v_base = 0x1161

abbrev pub t_base : ℕ
t_base = 0x11A7

abbrev pub t_count : ℕ
t_count = 28

abbrev pub n_count : ℕ
n_count = 588

abbrev pub is_hangul_syllable : ℕ → Bool
is_hangul_syllable c = nat_le s_base c && nat_le c 0xD7A3

abbrev pub hangul_mapping : ℕ → List ℕ
hangul_mapping c =
    let index : ℕ = c - s_base in
    let ending : ℕ = index % t_count in
    if ending == 0
    then (l_base + index / n_count) ∷ (v_base + index % n_count / t_count) ∷ []
    else (c - ending) ∷ (t_base + ending) ∷ []

abbrev pub is_plain : Kind → Bool
is_plain Plain = true
is_plain _ = false

abbrev pub maps_by_rule : ℕ → DataRow → Bool
maps_by_rule c row = is_hangul_syllable c && is_plain row.kind

abbrev pub kind_in : ℕ → Option DataRow → Kind
kind_in c (Some row) = if maps_by_rule c row then Canonical else row.kind
kind_in c None = Plain

abbrev pub mapping_in : ℕ → Option DataRow → List ℕ
mapping_in c (Some row) = if maps_by_rule c row then hangul_mapping c else row.mapping
mapping_in c None = []

abbrev pub upper_in : ℕ → Option DataRow → ℕ
upper_in c (Some row) = unwrap_or row.upper c
upper_in c None = c

abbrev pub lower_in : ℕ → Option DataRow → ℕ
lower_in c (Some row) = unwrap_or row.lower c
lower_in c None = c

abbrev pub title_in : ℕ → Option DataRow → ℕ
title_in c (Some row) = unwrap_or row.title (upper_in c (Some row))
title_in c None = c

-- ---- SpecialCasing.txt

abbrev pub image : ℕ → List ℕ → Image
image c points = if bytes_eq points (c ∷ []) then Same else To points

abbrev pub image_points : ℕ → Image → List ℕ
image_points c Same = c ∷ []
image_points c (To points) = points

abbrev pub is_casing_of : ℕ → Row → Bool
is_casing_of c (CasingLine row) = (row.code == c) && bytes_eq row.conditions []
is_casing_of c _ = false

abbrev pub casing_in : Option Row → Option CasingRow
casing_in (Some (CasingLine row)) = Some row
casing_in _ = None

abbrev pub casing_row : List Row → ℕ → Option CasingRow
casing_row rows c = casing_in (find (is_casing_of c) rows)

abbrev pub full_upper : ℕ → ℕ → Option CasingRow → Image
full_upper c simple (Some row) = image c row.upper
full_upper c simple None = image c (simple ∷ [])

abbrev pub full_lower : ℕ → ℕ → Option CasingRow → Image
full_lower c simple (Some row) = image c row.lower
full_lower c simple None = image c (simple ∷ [])

abbrev pub full_title : ℕ → ℕ → Option CasingRow → Image
full_title c simple (Some row) = image c row.title
full_title c simple None = image c (simple ∷ [])

-- ---- CaseFolding.txt

abbrev pub status_place : FoldStatus → ℕ
status_place status.C = 0
status_place status.F = 1
status_place status.S = 2
status_place status.T = 3

abbrev pub is_folding_of : FoldStatus → ℕ → Row → Bool
is_folding_of s c (FoldLine row) = (row.code == c) && (status_place row.status == status_place s)
is_folding_of s c _ = false

abbrev pub folding_in : Option Row → Option (List ℕ)
folding_in (Some (FoldLine row)) = Some row.mapping
folding_in _ = None

abbrev pub folding : List Row → FoldStatus → ℕ → Option (List ℕ)
folding rows s c = folding_in (find (is_folding_of s c) rows)

abbrev pub full_folding : List Row → ℕ → List ℕ
full_folding rows c = unwrap_or (folding rows status.F c) (unwrap_or (folding rows status.C c) (c ∷ []))

abbrev pub only_or : ℕ → List ℕ → ℕ
only_or c (d ∷ _) = d
only_or c [] = c

abbrev pub simple_folding : List Row → ℕ → ℕ
simple_folding rows c = only_or c (unwrap_or (folding rows status.S c) (unwrap_or (folding rows status.C c) []))

-- ---- PropList.txt, WordBreakProperty.txt, CompositionExclusions.txt

abbrev pub gives_value : List ℕ → ℕ → Row → Bool
gives_value value c (ValueLine row) = bytes_eq row.value value && within c row.span
gives_value value c _ = false

abbrev pub flag_at : List Row → Flag → ℕ → Bool
flag_at rows flag c = list_any (gives_value (flag_name flag) c) rows

abbrev pub excludes : ℕ → Row → Bool
excludes c (ExclusionLine row) = within c row.span
excludes c _ = false

abbrev pub excluded_at : List Row → ℕ → Bool
excluded_at rows c = list_any (excludes c) rows

-- ---- all facts

abbrev pub unassigned : ℕ → Facts
unassigned c = record {
  assigned = false;
  category = Cn;
  class = 0;
  kind = Plain;
  mapping = [];
  simple_upper = c;
  simple_lower = c;
  simple_title = c;
  simple_fold = c;
  upper = Same;
  lower = Same;
  title = Same;
  fold = Same;
  flag = λ _. false;
  mid_word = false;
  excluded = false;
}

abbrev pub given_by : ℕ → Option DataRow → Option CasingRow → Sources → Facts
given_by c row casing rows = record {
  assigned = is_some row;
  category = category_in row;
  class = class_in row;
  kind = kind_in c row;
  mapping = mapping_in c row;
  simple_upper = upper_in c row;
  simple_lower = lower_in c row;
  simple_title = title_in c row;
  simple_fold = simple_folding (rows CaseFolding) c;
  upper = full_upper c (upper_in c row) casing;
  lower = full_lower c (lower_in c row) casing;
  title = full_title c (title_in c row) casing;
  fold = image c (full_folding (rows CaseFolding) c);
  flag = λ flag. flag_at (rows PropList) flag c;
  mid_word = mid_word_at (rows WordBreakProperty) c;
  excluded = excluded_at (rows CompositionExclusions) c;
}

abbrev pub given : Sources → ℕ → Facts
given rows c = given_by c (data_row (rows UnicodeData) c) (casing_row (rows SpecialCasing) c) rows

unfoldable pub facts : Sources → ℕ → Facts
facts rows c = if nat_lt c point_count then given rows c else unassigned c
