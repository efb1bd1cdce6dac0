-- The values of each enumeration, in order, and the place of each value in its list, counted from 0. Names.antt has their names.
-- IsEnumeration values place   each value stands in the list at its place, and the list has each of them once, in order of
--                      their places
-- categories           the categories, in the order of UAX #44, section 5.7.1, table 12, with Cn last
-- statuses             the statuses of foldings: C F S T
-- tags, place_of_tag t the tags of compatibility mappings, in the order of UAX #44, section 5.7.3, table 14
-- kinds, place_of_kind k   Plain, Canonical, and the kinds with a tag, in the order of the tags
-- flags                the properties of PropList.txt, in the order of Flag
-- derived_files        the files that are written, in order
-- place_of_derived f   the place of a derived file in `derived_files`
-- foldings, place_of_folding f   the foldings: full, simple
-- forms, place_of_form f   the normalisation forms: NFD NFC NFKD NFKC
-- quick_values, place_of_quick q   the values of a quick check: Yes No Maybe
-- rules, place_of_rule r   the rules of a valid release, in the order in which they are tested
--
-- Elsewhere: category_place and core_properties (Predicates), status_place (Facts), flag_place and core_place (Sets),
-- source_files and file_place (SourceFiles).
-- EnumerationsAreWhole   each list has all values of its enumeration, each at its place
use Rattle.std.specs.Prelude.{◌≡◌, ℕ, ◌+◌, List, [], ◌∷◌, Some, map, length, slice_get}
use Rattle.std.specs.List.{range_with_len}
use Rattle.ucd_facts.specs.Facts.{status_place, Kind}
use Rattle.ucd_facts.specs.Predicates.{category_place, core_properties}
use Rattle.ucd_facts.specs.Sets.{flag_place, core_place}
use Rattle.ucd_points.specs.SourceFiles.{source_files, file_place}
use Rattle.ucd_facts.specs.declared.category.Category.{Category}
use Rattle.ucd_facts.specs.declared.category.Category.TheVariants.{Lu, Ll, Lt, Lm, Lo, Mn, Mc, Me, Nd, Nl, No, Pc, Pd, Ps, Pe, Pi, Pf, Po, Sm, Sc, Sk, So, Zs, Zl, Zp, Cc, Cf, Cs, Co, Cn}
use Rattle.ucd_facts.specs.declared.decomposition.Kind.TheVariants as kind
use Rattle.ucd_facts.specs.declared.decomposition.Tag.{Tag}
use Rattle.ucd_facts.specs.declared.decomposition.Tag.TheVariants.{Font, NoBreak, Initial, Medial, Final, Isolated, Circle, Super, Sub, Vertical, Wide, Narrow, Small, Square, Fraction, Compat}
use Rattle.ucd_facts.specs.declared.files.DerivedFile.{DerivedFile}
use Rattle.ucd_facts.specs.declared.files.DerivedFile.TheVariants.{CoreProperties, NormalizationProps, GeneralCategory, CombiningClass, DecompositionType}
use Rattle.ucd_facts.specs.declared.folding.Folding.{Folding}
use Rattle.ucd_facts.specs.declared.folding.Folding.TheVariants.{Full, Simple}
use Rattle.ucd_facts.specs.declared.form.Bad.{Bad as Rule}
use Rattle.ucd_facts.specs.declared.form.Bad.TheVariants.{V1, V2, V3, V4, V5}
use Rattle.ucd_facts.specs.declared.form.Form.{Form}
use Rattle.ucd_facts.specs.declared.form.Form.TheVariants.{Nfd, Nfc, Nfkd, Nfkc}
use Rattle.ucd_facts.specs.declared.form.Quick.{Quick}
use Rattle.ucd_facts.specs.declared.form.Quick.TheVariants as quick
use Rattle.ucd_facts.specs.declared.property.Flag.{Flag}
use Rattle.ucd_facts.specs.declared.property.Flag.TheVariants.{WhiteSpace, OtherMath, OtherLowercase, OtherUppercase, OtherAlphabetic, OtherIdStart, OtherIdContinue, PatternSyntax, PatternWhiteSpace, OtherDefaultIgnorableCodePoint, VariationSelector, PrependedConcatenationMark, OtherGraphemeExtend, NoncharacterCodePoint}
use Rattle.ucd_facts.specs.declared.row.FoldStatus.{FoldStatus}
use Rattle.ucd_facts.specs.declared.row.FoldStatus.TheVariants as status

pub record IsEnumeration {X : Type 0} (values : List X) (place : X → ℕ) : Type 0 where
  pub each : (x : X) → slice_get values (place x) ≡ Some x
  pub order : map place values ≡ range_with_len 0 (length values)

abbrev pub categories : List Category
categories =
    Lu ∷ Ll ∷ Lt ∷ Lm ∷ Lo ∷ Mn ∷ Mc ∷ Me ∷ Nd ∷ Nl ∷ No ∷ Pc ∷ Pd ∷ Ps ∷ Pe ∷ Pi ∷ Pf ∷ Po
    ∷ Sm ∷ Sc ∷ Sk ∷ So ∷ Zs ∷ Zl ∷ Zp ∷ Cc ∷ Cf ∷ Cs ∷ Co ∷ Cn ∷ []

abbrev pub statuses : List FoldStatus
statuses = status.C ∷ status.F ∷ status.S ∷ status.T ∷ []

abbrev pub tags : List Tag
tags =
    Font ∷ NoBreak ∷ Initial ∷ Medial ∷ Final ∷ Isolated ∷ Circle ∷ Super ∷ Sub ∷ Vertical ∷ Wide ∷ Narrow ∷ Small ∷ Square
    ∷ Fraction ∷ Compat ∷ []

abbrev pub place_of_tag : Tag → ℕ
place_of_tag Font = 0
place_of_tag NoBreak = 1
place_of_tag Initial = 2
place_of_tag Medial = 3
place_of_tag Final = 4
place_of_tag Isolated = 5
place_of_tag Circle = 6
place_of_tag Super = 7
place_of_tag Sub = 8
place_of_tag Vertical = 9
place_of_tag Wide = 10
place_of_tag Narrow = 11
place_of_tag Small = 12
place_of_tag Square = 13
place_of_tag Fraction = 14
place_of_tag Compat = 15

abbrev pub kinds : List Kind
kinds = kind.Plain ∷ kind.Canonical ∷ map kind.Compat tags

abbrev pub place_of_kind : Kind → ℕ
place_of_kind kind.Plain = 0
place_of_kind kind.Canonical = 1
place_of_kind (kind.Compat tag) = 2 + place_of_tag tag

abbrev pub flags : List Flag
flags =
    WhiteSpace ∷ OtherMath ∷ OtherLowercase ∷ OtherUppercase ∷ OtherAlphabetic ∷ OtherIdStart ∷ OtherIdContinue ∷ PatternSyntax
    ∷ PatternWhiteSpace ∷ OtherDefaultIgnorableCodePoint ∷ VariationSelector ∷ PrependedConcatenationMark ∷ OtherGraphemeExtend
    ∷ NoncharacterCodePoint ∷ []

abbrev pub derived_files : List DerivedFile
derived_files = CoreProperties ∷ NormalizationProps ∷ GeneralCategory ∷ CombiningClass ∷ DecompositionType ∷ []

abbrev pub place_of_derived : DerivedFile → ℕ
place_of_derived CoreProperties = 0
place_of_derived NormalizationProps = 1
place_of_derived GeneralCategory = 2
place_of_derived CombiningClass = 3
place_of_derived DecompositionType = 4

abbrev pub foldings : List Folding
foldings = Full ∷ Simple ∷ []

abbrev pub place_of_folding : Folding → ℕ
place_of_folding Full = 0
place_of_folding Simple = 1

abbrev pub forms : List Form
forms = Nfd ∷ Nfc ∷ Nfkd ∷ Nfkc ∷ []

abbrev pub place_of_form : Form → ℕ
place_of_form Nfd = 0
place_of_form Nfc = 1
place_of_form Nfkd = 2
place_of_form Nfkc = 3

abbrev pub quick_values : List Quick
quick_values = quick.Yes ∷ quick.No ∷ quick.Maybe ∷ []

abbrev pub place_of_quick : Quick → ℕ
place_of_quick quick.Yes = 0
place_of_quick quick.No = 1
place_of_quick quick.Maybe = 2

abbrev pub rules : List Rule
rules = V1 ∷ V2 ∷ V3 ∷ V4 ∷ V5 ∷ []

abbrev pub place_of_rule : Rule → ℕ
place_of_rule V1 = 0
place_of_rule V2 = 1
place_of_rule V3 = 2
place_of_rule V4 = 3
place_of_rule V5 = 4

pub record EnumerationsAreWhole : Type 0 where
  pub of_category : IsEnumeration categories category_place
  pub of_status : IsEnumeration statuses status_place
  pub of_tag : IsEnumeration tags place_of_tag
  pub of_kind : IsEnumeration kinds place_of_kind
  pub of_flag : IsEnumeration flags flag_place
  pub of_core : IsEnumeration core_properties core_place
  pub of_source : IsEnumeration source_files file_place
  pub of_derived : IsEnumeration derived_files place_of_derived
  pub of_folding : IsEnumeration foldings place_of_folding
  pub of_form : IsEnumeration forms place_of_form
  pub of_quick : IsEnumeration quick_values place_of_quick
  pub of_rule : IsEnumeration rules place_of_rule
