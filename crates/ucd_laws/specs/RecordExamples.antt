-- The derived properties of some code points, with the values of DerivedCoreProperties.txt of Unicode 15.0.0, and the
-- derived files over a few records.
-- point k class         the facts of a point of category k and of that combining class, with no flag
-- with_flag f F         the facts F with the flag f as well
-- in_word F             the facts F of a point with a Word_Break value of mid_word_values
-- cores c F             the core properties of c, in the order of DerivedCoreProperties.txt
-- sample                the facts of 0 to 5: Lu with a lower mapping and a folding, Ll, Ll, Mn of class 230, Zs with a mapping of
--                       <noBreak>, and Lu with a canonical mapping; all others have no row
use Rattle.std.proofs.Common.{◌≡◌, ℕ, true, false, List, [], ◌∷◌, ◌++◌, None, ◌||◌, ◌==◌, get_or, filter, map, refl, codes}
use Rattle.std.specs.Fmt.{digits}
use Rattle.ucd_facts.specs.Expansion.{full}
use Rattle.ucd_facts.specs.Facts.{Facts, unassigned}
use Rattle.ucd_facts.specs.declared.decomposition.Kind.TheVariants.{Plain, Canonical, Compat}
use Rattle.ucd_facts.specs.declared.image.Image.TheVariants.{Same, To}
use Rattle.ucd_facts.specs.Names.{tag_text, tag_name}
use Rattle.ucd_facts.specs.Predicates.{holds, core_properties}
use Rattle.ucd_model.specs.Records.{Record, record_at}
use Rattle.ucd_model.specs.DerivedText.{section_text}
use Rattle.ucd_points.specs.HexText.{span_text, hex_text}
use Rattle.ucd_model.specs.DerivedFiles.{derived_text, listed, category_label, class_label, kind_label}
use Rattle.ucd_facts.specs.RowTexts.{mapping_text}
use Rattle.ucd_facts.specs.Sets.{flag_place}
use Rattle.ucd_facts.specs.declared.category.Category.{Category}
use Rattle.ucd_facts.specs.declared.category.Category.TheVariants.{Lu, Ll, Lt, Lm, Lo, Mn, Mc, Me, Nd, Nl, No, Pc, Po, Sm, Sk, Zs, Zl, Cc, Cf, Cs, Co, Cn}
use Rattle.ucd_facts.specs.declared.decomposition.Tag.{Tag}
use Rattle.ucd_facts.specs.declared.decomposition.Tag.TheVariants.{Font, NoBreak}
use Rattle.ucd_facts.specs.declared.files.DerivedFile.TheVariants.{CoreProperties, NormalizationProps, GeneralCategory, CombiningClass, DecompositionType}
use Rattle.ucd_facts.specs.declared.form.Quick.TheVariants.{Yes, No, Maybe}
use Rattle.ucd_facts.specs.declared.property.Core.{Core}
use Rattle.ucd_facts.specs.declared.property.Core.TheVariants.{Math, Alphabetic, Lowercase, Uppercase, Cased, CaseIgnorable, IdStart, IdContinue, DefaultIgnorableCodePoint, GraphemeExtend, GraphemeBase, GraphemeLink}
use Rattle.ucd_facts.specs.declared.property.Flag.{Flag}
use Rattle.ucd_facts.specs.declared.property.Flag.TheVariants.{WhiteSpace, OtherMath, OtherLowercase, OtherAlphabetic, OtherIdStart, OtherIdContinue, PatternSyntax, PatternWhiteSpace, OtherDefaultIgnorableCodePoint, VariationSelector, PrependedConcatenationMark, OtherGraphemeExtend}

abbrev point : Category → ℕ → Facts
point k class = record (unassigned 0) { category = k; class = class }

abbrev with_flag : Flag → Facts → Facts
with_flag flag F = record F { flag = λ other. (flag_place other == flag_place flag) || F.flag other }

abbrev in_word : Facts → Facts
in_word F = record F { mid_word = true }

abbrev cores : ℕ → Facts → List Core
cores c F = filter (λ core. holds core c F) core_properties

-- LATIN CAPITAL LETTER A, LATIN SMALL LETTER A, a titlecase letter, MODIFIER LETTER SMALL H, HEBREW LETTER ALEF,
-- ROMAN NUMERAL ONE HUNDRED THOUSAND, DIGIT ZERO, LOW LINE and SUPERSCRIPT TWO
letter_examples : (cores 0x41 (point Lu 0) ≡ Alphabetic ∷ Uppercase ∷ Cased ∷ IdStart ∷ IdContinue ∷ GraphemeBase ∷ [])
    × (cores 0x61 (point Ll 0) ≡ Alphabetic ∷ Lowercase ∷ Cased ∷ IdStart ∷ IdContinue ∷ GraphemeBase ∷ [])
    × (cores 0x1C5 (point Lt 0) ≡ Alphabetic ∷ Cased ∷ IdStart ∷ IdContinue ∷ GraphemeBase ∷ [])
    × (cores 0x2B0 (with_flag OtherLowercase (point Lm 0)) ≡ Alphabetic ∷ Lowercase ∷ Cased ∷ CaseIgnorable ∷ IdStart ∷ IdContinue ∷ GraphemeBase ∷ [])
    × (cores 0x5D0 (point Lo 0) ≡ Alphabetic ∷ IdStart ∷ IdContinue ∷ GraphemeBase ∷ [])
    × (cores 0x2188 (point Nl 0) ≡ Alphabetic ∷ IdStart ∷ IdContinue ∷ GraphemeBase ∷ [])
    × (cores 0x30 (point Nd 0) ≡ IdContinue ∷ GraphemeBase ∷ [])
    × (cores 0x5F (point Pc 0) ≡ IdContinue ∷ GraphemeBase ∷ [])
    × (cores 0xB2 (point No 0) ≡ GraphemeBase ∷ [])
letter_examples = (refl, refl, refl, refl, refl, refl, refl, refl, refl)

-- COMBINING GRAVE ACCENT, DEVANAGARI SIGN VIRAMA, DEVANAGARI SIGN VISARGA, COMBINING ENCLOSING CIRCLE and
-- BENGALI VOWEL SIGN AA
mark_examples : (cores 0x300 (point Mn 230) ≡ CaseIgnorable ∷ IdContinue ∷ GraphemeExtend ∷ [])
    × (cores 0x94D (point Mn 9) ≡ CaseIgnorable ∷ IdContinue ∷ GraphemeExtend ∷ GraphemeLink ∷ [])
    × (cores 0x903 (with_flag OtherAlphabetic (point Mc 0)) ≡ Alphabetic ∷ IdContinue ∷ GraphemeBase ∷ [])
    × (cores 0x20DD (point Me 0) ≡ CaseIgnorable ∷ GraphemeExtend ∷ [])
    × (cores 0x9BE (with_flag OtherGraphemeExtend (with_flag OtherAlphabetic (point Mc 0))) ≡ Alphabetic ∷ IdContinue ∷ GraphemeExtend ∷ [])
mark_examples = (refl, refl, refl, refl, refl)

-- APOSTROPHE and MIDDLE DOT have a Word_Break value inside words; VERTICAL TILDE is a letter of pattern syntax;
-- SCRIPT CAPITAL P and MIDDLE DOT are in identifiers by their flags
symbol_examples : (cores 0x27 (in_word (with_flag PatternSyntax (point Po 0))) ≡ CaseIgnorable ∷ GraphemeBase ∷ [])
    × (cores 0x5E (with_flag OtherMath (with_flag PatternSyntax (point Sk 0))) ≡ Math ∷ CaseIgnorable ∷ GraphemeBase ∷ [])
    × (cores 0xB7 (in_word (with_flag OtherIdContinue (point Po 0))) ≡ CaseIgnorable ∷ IdContinue ∷ GraphemeBase ∷ [])
    × (cores 0x2E2F (with_flag PatternSyntax (point Lm 0)) ≡ Alphabetic ∷ CaseIgnorable ∷ GraphemeBase ∷ [])
    × (cores 0x2118 (with_flag OtherIdStart (point Sm 0)) ≡ Math ∷ IdStart ∷ IdContinue ∷ GraphemeBase ∷ [])
    × (cores 0x2B (with_flag PatternSyntax (point Sm 0)) ≡ Math ∷ GraphemeBase ∷ [])
    × (cores 0x20 (with_flag WhiteSpace (with_flag PatternWhiteSpace (point Zs 0))) ≡ GraphemeBase ∷ [])
    × (cores 0x2028 (with_flag WhiteSpace (with_flag PatternWhiteSpace (point Zl 0))) ≡ [])
symbol_examples = (refl, refl, refl, refl, refl, refl, refl, refl)

-- SOFT HYPHEN is ignored; ARABIC NUMBER SIGN is not, nor are the two ranges between FFF8 and FFFC and between 1342F and
-- 13440; a variation selector, and a point without a row, are by their flags
ignorable_examples : (cores 0xAD (point Cf 0) ≡ CaseIgnorable ∷ DefaultIgnorableCodePoint ∷ [])
    × (cores 0x600 (with_flag PrependedConcatenationMark (point Cf 0)) ≡ CaseIgnorable ∷ [])
    × (map (λ c. holds DefaultIgnorableCodePoint c (point Cf 0)) (0xFFF8 ∷ 0xFFF9 ∷ 0xFFFB ∷ 0xFFFC ∷ []) ≡ true ∷ false ∷ false ∷ true ∷ [])
    × (map (λ c. holds DefaultIgnorableCodePoint c (point Cf 0)) (0x1342F ∷ 0x13430 ∷ 0x1343F ∷ 0x13440 ∷ []) ≡ true ∷ false ∷ false ∷ true ∷ [])
    × (holds DefaultIgnorableCodePoint 0x20 (with_flag WhiteSpace (point Cf 0)) ≡ false)
    × (cores 0xFE00 (with_flag VariationSelector (point Mn 0)) ≡ CaseIgnorable ∷ IdContinue ∷ DefaultIgnorableCodePoint ∷ GraphemeExtend ∷ [])
    × (cores 0xFFF0 (with_flag OtherDefaultIgnorableCodePoint (point Cn 0)) ≡ DefaultIgnorableCodePoint ∷ [])
    × (cores 0x200C (with_flag OtherGraphemeExtend (point Cf 0)) ≡ CaseIgnorable ∷ DefaultIgnorableCodePoint ∷ GraphemeExtend ∷ [])
ignorable_examples = (refl, refl, refl, refl, refl, refl, refl, refl)

-- a control, a surrogate, a point for private use, and one without a row
other_examples : (cores 0x0 (point Cc 0) ≡ [])
    × (cores 0xD800 (point Cs 0) ≡ [])
    × (cores 0xE000 (point Co 0) ≡ [])
    × (cores 0x378 (unassigned 0x378) ≡ [])
other_examples = (refl, refl, refl, refl)

-- ---- labels

-- 0041 is Lu, 0378 has no row; 0300 has class 230; 00C0 has a canonical mapping, and 00A0 one with the tag <noBreak>
label_examples : (category_label Lu ≡ listed (codes "Lu"))
    × (category_label Cn ≡ None)
    × (class_label 0 ≡ None)
    × (class_label 9 ≡ listed (codes "9"))
    × (class_label 230 ≡ listed (codes "230"))
    × (kind_label Plain ≡ None)
    × (kind_label Canonical ≡ listed (codes "canonical"))
    × (kind_label (Compat NoBreak) ≡ listed (codes "noBreak"))
unfolding digits
label_examples = (refl, refl, refl, refl, refl, refl, refl, refl)

-- a tag's text is its name between brackets
tag_examples : (t : Tag) → tag_text t ≡ codes "<" ++ tag_name t ++ codes ">"
tag_examples Font = refl
tag_examples _ = refl

-- ---- files

abbrev sample : ℕ → Facts
sample c = get_or (record (point Lu 0) { lower = To (1 ∷ []); fold = To (1 ∷ []) } ∷ point Ll 0 ∷ point Ll 0 ∷ point Mn 230 ∷ record (point Zs 0) { kind = Compat NoBreak } ∷ record (point Lu 0) { kind = Canonical } ∷ []) c (unassigned c)

category_example : derived_text 8 GeneralCategory (record_at sample) ≡ codes "# General_Category\n0000 ; Lu\n0001..0002 ; Ll\n0003 ; Mn\n0004 ; Zs\n0005 ; Lu\n# total 6\n\n"
unfolding derived_text section_text span_text hex_text digits
category_example = refl

class_example : derived_text 8 CombiningClass (record_at sample) ≡ codes "# Canonical_Combining_Class\n0003 ; 230\n# total 1\n\n"
unfolding derived_text section_text span_text hex_text digits
class_example = refl

type_example : derived_text 8 DecompositionType (record_at sample) ≡ codes "# Decomposition_Type\n0004 ; noBreak\n0005 ; canonical\n# total 2\n\n"
unfolding derived_text section_text span_text hex_text digits
type_example = refl

core_example : derived_text 3 CoreProperties (record_at sample) ≡
    codes "# Math\n# total 0\n\n# Alphabetic\n0000..0002 ; Alphabetic\n# total 3\n\n# Lowercase\n0001..0002 ; Lowercase\n# total 2\n\n# Uppercase\n0000 ; Uppercase\n# total 1\n\n"
    ++ codes "# Cased\n0000..0002 ; Cased\n# total 3\n\n# Case_Ignorable\n# total 0\n\n"
    ++ codes "# Changes_When_Lowercased\n0000 ; Changes_When_Lowercased\n# total 1\n\n# Changes_When_Uppercased\n# total 0\n\n# Changes_When_Titlecased\n# total 0\n\n"
    ++ codes "# Changes_When_Casefolded\n0000 ; Changes_When_Casefolded\n# total 1\n\n# Changes_When_Casemapped\n0000 ; Changes_When_Casemapped\n# total 1\n\n"
    ++ codes "# ID_Start\n0000..0002 ; ID_Start\n# total 3\n\n# ID_Continue\n0000..0002 ; ID_Continue\n# total 3\n\n"
    ++ codes "# XID_Start\n0000..0002 ; XID_Start\n# total 3\n\n# XID_Continue\n0000..0002 ; XID_Continue\n# total 3\n\n"
    ++ codes "# Default_Ignorable_Code_Point\n# total 0\n\n# Grapheme_Extend\n# total 0\n\n# Grapheme_Base\n0000..0002 ; Grapheme_Base\n# total 3\n\n# Grapheme_Link\n# total 0\n\n"
unfolding derived_text section_text span_text hex_text digits full
core_example = refl

-- four records: of 0 with No twice, of 1 with empty foldings, of 2 with Maybe, of 3 with a full folding of two points and a simple one of one
abbrev plain_record : Record
plain_record = record (record_at unassigned 0) { nfd = Yes; nfc = Yes; nfkd = Yes; nfkc = Yes; exclusion = false; casefold = Same; simple_casefold = Same; changes_casefold = false }

abbrev sample_records : ℕ → Record
sample_records c = get_or (
    record plain_record { nfd = No; nfkd = No; exclusion = true } ∷ record plain_record { casefold = To []; simple_casefold = To []; changes_casefold = true }
    ∷ record plain_record { nfc = Maybe; nfkc = Maybe } ∷ record plain_record { nfkd = No; nfkc = No; casefold = To (0x41 ∷ 0x300 ∷ []); simple_casefold = To (0x41 ∷ []); changes_casefold = true } ∷ []) c plain_record

normalization_example : derived_text 5 NormalizationProps sample_records ≡
    codes "# Full_Composition_Exclusion\n0000 ; Full_Composition_Exclusion\n# total 1\n\n# NFD_QC\n0000 ; NFD_QC ; N\n# total 1\n\n# NFC_QC\n0002 ; NFC_QC ; M\n# total 1\n\n"
    ++ codes "# NFKD_QC\n0000 ; NFKD_QC ; N\n0003 ; NFKD_QC ; N\n# total 2\n\n# NFKC_QC\n0002 ; NFKC_QC ; M\n0003 ; NFKC_QC ; N\n# total 2\n\n"
    ++ codes "# NFKC_CF\n0001 ; NFKC_CF ;\n0003 ; NFKC_CF ; 0041 0300\n# total 2\n\n"
    ++ codes "# NFKC_SCF\n0001 ; NFKC_SCF ;\n0003 ; NFKC_SCF ; 0041\n# total 2\n\n"
    ++ codes "# Changes_When_NFKC_Casefolded\n0001 ; Changes_When_NFKC_Casefolded\n0003 ; Changes_When_NFKC_Casefolded\n# total 2\n\n"
unfolding derived_text section_text span_text hex_text digits mapping_text
normalization_example = refl
