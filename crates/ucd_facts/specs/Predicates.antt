-- Core properties that follow from the facts of one code point. UAX #44, section 5.3, table 9;
-- The Unicode Standard, section 4.2 (Case), 4.5 (General Category) and 4.10 (Letters, Alphabetic, and Ideographic).
-- category_place k                 the place of a category in the order of UAX #44, table 12, counted from 0, with Cn last
-- is_one_of ks k                   the category k is one of the categories ks
-- math, alphabetic, lowercase, uppercase   as DerivedCoreProperties.txt generates them
-- cased, case_ignorable            The Unicode Standard, section 3.13, D135 and D136
-- in_pattern F                     Pattern_Syntax or Pattern_White_Space: the point is kept for the syntax of patterns. UAX #31,
--                                  section 4
-- id_start, id_continue            UAX #31, section 2, table 2; never a character of pattern syntax or pattern white space
-- is_visible_format c              a format character that is shown: interlinear annotation, FFF9 to FFFB, and Egyptian
--                                  hieroglyph format characters, 13430 to 1343F
-- default_ignorable c F            of the point c with the facts F, since two ranges of format characters are left out by number
-- grapheme_extend, grapheme_base   The Unicode Standard, section 3.6, Combination; no point has both
-- grapheme_link                    the combining class is 9, Virama
-- holds core c F                   whether the point c with the facts F has the property; false for the seven properties that
--                                  need the facts of other points too
-- core_properties                  the core properties, in the order of DerivedCoreProperties.txt
use Rattle.std.specs.Prelude.{ℕ, Bool, false, ◌||◌, ◌&&◌, not, List, [], ◌∷◌, ◌==◌, nat_le}
use Rattle.std.specs.List.{list_any}
use Rattle.ucd_facts.specs.Facts.{Facts}
use Rattle.ucd_facts.specs.declared.category.Category.{Category}
use Rattle.ucd_facts.specs.declared.category.Category.TheVariants.{Lu, Ll, Lt, Lm, Lo, Mn, Mc, Me, Nd, Nl, No, Pc, Pd, Ps, Pe, Pi, Pf, Po, Sm, Sc, Sk, So, Zs, Zl, Zp, Cc, Cf, Cs, Co, Cn}
use Rattle.ucd_facts.specs.declared.property.Flag.TheVariants.{WhiteSpace, OtherMath, OtherLowercase, OtherUppercase, OtherAlphabetic, OtherIdStart, OtherIdContinue, PatternSyntax, PatternWhiteSpace, OtherDefaultIgnorableCodePoint, VariationSelector, PrependedConcatenationMark, OtherGraphemeExtend}
use Rattle.ucd_facts.specs.declared.property.Core.{Core}
use Rattle.ucd_facts.specs.declared.property.Core.TheVariants.{Math, Alphabetic, Lowercase, Uppercase, Cased, CaseIgnorable, ChangesWhenLowercased, ChangesWhenUppercased, ChangesWhenTitlecased, ChangesWhenCasefolded, ChangesWhenCasemapped, IdStart, IdContinue, XidStart, XidContinue, DefaultIgnorableCodePoint, GraphemeExtend, GraphemeBase, GraphemeLink}

abbrev pub category_place : Category → ℕ
category_place Lu = 0
category_place Ll = 1
category_place Lt = 2
category_place Lm = 3
category_place Lo = 4
category_place Mn = 5
category_place Mc = 6
category_place Me = 7
category_place Nd = 8
category_place Nl = 9
category_place No = 10
category_place Pc = 11
category_place Pd = 12
category_place Ps = 13
category_place Pe = 14
category_place Pi = 15
category_place Pf = 16
category_place Po = 17
category_place Sm = 18
category_place Sc = 19
category_place Sk = 20
category_place So = 21
category_place Zs = 22
category_place Zl = 23
category_place Zp = 24
category_place Cc = 25
category_place Cf = 26
category_place Cs = 27
category_place Co = 28
category_place Cn = 29

abbrev pub is_one_of : List Category → Category → Bool
is_one_of categories category = list_any (λ k. category_place k == category_place category) categories

abbrev pub math : Facts → Bool
math F = is_one_of (Sm ∷ []) F.category || F.flag OtherMath

abbrev pub lowercase : Facts → Bool
lowercase F = is_one_of (Ll ∷ []) F.category || F.flag OtherLowercase

abbrev pub uppercase : Facts → Bool
uppercase F = is_one_of (Lu ∷ []) F.category || F.flag OtherUppercase

abbrev pub alphabetic : Facts → Bool
alphabetic F = (lowercase F || uppercase F) || (is_one_of (Lt ∷ Lm ∷ Lo ∷ Nl ∷ []) F.category || F.flag OtherAlphabetic)

abbrev pub cased : Facts → Bool
cased F = (lowercase F || uppercase F) || is_one_of (Lt ∷ []) F.category

abbrev pub case_ignorable : Facts → Bool
case_ignorable F = F.mid_word || is_one_of (Mn ∷ Me ∷ Cf ∷ Lm ∷ Sk ∷ []) F.category

abbrev pub in_pattern : Facts → Bool
in_pattern F = F.flag PatternSyntax || F.flag PatternWhiteSpace

abbrev pub id_start : Facts → Bool
id_start F = (is_one_of (Lu ∷ Ll ∷ Lt ∷ Lm ∷ Lo ∷ Nl ∷ []) F.category || F.flag OtherIdStart) && not (in_pattern F)

abbrev pub id_continue : Facts → Bool
id_continue F = (id_start F || (is_one_of (Mn ∷ Mc ∷ Nd ∷ Pc ∷ []) F.category || F.flag OtherIdContinue)) && not (in_pattern F)

abbrev pub is_visible_format : ℕ → Bool
is_visible_format c = (nat_le 0xFFF9 c && nat_le c 0xFFFB) || (nat_le 0x13430 c && nat_le c 0x1343F)

abbrev pub default_ignorable : ℕ → Facts → Bool
default_ignorable c F =
    (is_one_of (Cf ∷ []) F.category || (F.flag OtherDefaultIgnorableCodePoint || F.flag VariationSelector))
    && not (is_visible_format c || (F.flag WhiteSpace || F.flag PrependedConcatenationMark))

abbrev pub grapheme_extend : Facts → Bool
grapheme_extend F = is_one_of (Me ∷ Mn ∷ []) F.category || F.flag OtherGraphemeExtend

abbrev pub grapheme_base : Facts → Bool
grapheme_base F = not (is_one_of (Cc ∷ Cf ∷ Cs ∷ Co ∷ Cn ∷ Zl ∷ Zp ∷ []) F.category || grapheme_extend F)

abbrev pub grapheme_link : Facts → Bool
grapheme_link F = F.class == 9

abbrev pub holds : Core → ℕ → Facts → Bool
holds Math c F = math F
holds Alphabetic c F = alphabetic F
holds Lowercase c F = lowercase F
holds Uppercase c F = uppercase F
holds Cased c F = cased F
holds CaseIgnorable c F = case_ignorable F
holds IdStart c F = id_start F
holds IdContinue c F = id_continue F
holds DefaultIgnorableCodePoint c F = default_ignorable c F
holds GraphemeExtend c F = grapheme_extend F
holds GraphemeBase c F = grapheme_base F
holds GraphemeLink c F = grapheme_link F
holds ChangesWhenLowercased c F = false
holds ChangesWhenUppercased c F = false
holds ChangesWhenTitlecased c F = false
holds ChangesWhenCasefolded c F = false
holds ChangesWhenCasemapped c F = false
holds XidStart c F = false
holds XidContinue c F = false

abbrev pub core_properties : List Core
core_properties =
    Math ∷ Alphabetic ∷ Lowercase ∷ Uppercase ∷ Cased ∷ CaseIgnorable
    ∷ ChangesWhenLowercased ∷ ChangesWhenUppercased ∷ ChangesWhenTitlecased ∷ ChangesWhenCasefolded ∷ ChangesWhenCasemapped
    ∷ IdStart ∷ IdContinue ∷ XidStart ∷ XidContinue
    ∷ DefaultIgnorableCodePoint ∷ GraphemeExtend ∷ GraphemeBase ∷ GraphemeLink ∷ []
