-- The text of some code points, with the values of DerivedCoreProperties.txt and DerivedNormalizationProps.txt of Unicode 15.1.0, and
-- of UnicodeData.txt.
-- has ps p          p is one of the core properties ps
-- folded points     a record with this folding, simple and full, and otherwise of an unassigned code point
-- capital_a, capital_a_grave, soft_hyphen, ypogegrammeni    the records of 0041, 00C0, 00AD and 0345
use Rattle.std.proofs.Common.{◌≡◌, ℕ, Bool, true, false, List, [], ◌∷◌, ◌++◌, ◌==◌, refl, codes}
use Rattle.std.specs.Fmt.{digits}
use Rattle.std.specs.List.{list_any}
use Rattle.ucd_points.specs.HexText.{hex_text}
use Rattle.ucd_points.specs.Lines.{contents}
use Rattle.ucd_points.specs.declared.files.SourceFile.TheVariants.{UnicodeData, WordBreakProperty}
use Rattle.ucd_model.specs.Records.{Record}
use Rattle.ucd_facts.specs.RowTexts.{mapping_text}
use Rattle.ucd_facts.specs.Sets.{core_place}
use Rattle.ucd_facts.specs.declared.category.Category.TheVariants.{Lu, Mn, Cf, Cn}
use Rattle.ucd_facts.specs.declared.decomposition.Kind.TheVariants.{Plain, Canonical}
use Rattle.ucd_facts.specs.declared.form.Quick.TheVariants.{Yes, No, Maybe}
use Rattle.ucd_facts.specs.declared.image.Image.TheVariants.{Same, To}
use Rattle.ucd_facts.specs.declared.property.Core.{Core}
use Rattle.ucd_facts.specs.declared.property.Core.TheVariants.{Alphabetic, Lowercase, Uppercase, Cased, CaseIgnorable, ChangesWhenLowercased, ChangesWhenUppercased, ChangesWhenTitlecased, ChangesWhenCasefolded, ChangesWhenCasemapped, IdStart, IdContinue, XidStart, XidContinue, DefaultIgnorableCodePoint, GraphemeExtend, GraphemeBase}
use Rattle.record_lines.specs.FileLines.{place_lines}
use Rattle.record_lines.specs.RecordTexts.{record_text, change_text}

abbrev has : List Core → Core → Bool
has ps p = list_any (λ q. core_place q == core_place p) ps

abbrev folded : List ℕ → Record
folded points = record {
  category = Cn;
  class = 0;
  kind = Plain;
  core = has [];
  exclusion = false;
  nfd = Yes;
  nfc = Yes;
  nfkd = Yes;
  nfkc = Yes;
  casefold = To points;
  simple_casefold = To points;
  changes_casefold = true;
}

abbrev capital_cores : List Core
capital_cores = Alphabetic ∷ Uppercase ∷ Cased ∷ ChangesWhenLowercased ∷ ChangesWhenCasefolded ∷ ChangesWhenCasemapped ∷ IdStart ∷ IdContinue ∷ XidStart ∷ XidContinue ∷ GraphemeBase ∷ []

abbrev mark_cores : List Core
mark_cores = Alphabetic ∷ Lowercase ∷ Cased ∷ CaseIgnorable ∷ ChangesWhenUppercased ∷ ChangesWhenTitlecased ∷ ChangesWhenCasefolded ∷ ChangesWhenCasemapped ∷ IdContinue ∷ XidContinue ∷ GraphemeExtend ∷ []

abbrev capital_a : Record
capital_a = record (folded (0x61 ∷ [])) { category = Lu; core = has capital_cores }

abbrev capital_a_grave : Record
capital_a_grave = record (folded (0xE0 ∷ [])) { category = Lu; kind = Canonical; core = has capital_cores; nfd = No; nfkd = No }

abbrev soft_hyphen : Record
soft_hyphen = record (folded []) { category = Cf; core = has (CaseIgnorable ∷ DefaultIgnorableCodePoint ∷ []) }

abbrev ypogegrammeni : Record
ypogegrammeni = record (folded (0x3B9 ∷ [])) { category = Mn; class = 240; core = has mark_cores; nfc = Maybe; nfkc = Maybe }

abbrev unassigned : Record
unassigned = record (folded []) { casefold = Same; simple_casefold = Same; changes_casefold = false }

-- LATIN CAPITAL LETTER A WITH GRAVE, whole
record_example : record_text 0xC0 capital_a_grave
    ≡ codes "# 00C0\nMath ; N\nAlphabetic ; Y\nLowercase ; N\nUppercase ; Y\nCased ; Y\nCase_Ignorable ; N\nChanges_When_Lowercased ; Y\n"
    ++ codes "Changes_When_Uppercased ; N\nChanges_When_Titlecased ; N\nChanges_When_Casefolded ; Y\nChanges_When_Casemapped ; Y\nID_Start ; Y\n"
    ++ codes "ID_Continue ; Y\nXID_Start ; Y\nXID_Continue ; Y\nDefault_Ignorable_Code_Point ; N\nGrapheme_Extend ; N\nGrapheme_Base ; Y\n"
    ++ codes "Grapheme_Link ; N\nFull_Composition_Exclusion ; N\nNFD_QC ; N\nNFC_QC ; Y\nNFKD_QC ; N\nNFKC_QC ; Y\nNFKC_CF ; 00E0\nNFKC_SCF ; 00E0\n"
    ++ codes "Changes_When_NFKC_Casefolded ; Y\nGeneral_Category ; Lu\nCanonical_Combining_Class ; 0\nDecomposition_Type ; canonical\n"
unfolding hex_text mapping_text digits
record_example = refl

-- what a code point is that was not assigned before, and what LATIN CAPITAL LETTER A is beside LATIN CAPITAL LETTER A WITH GRAVE;
-- SOFT HYPHEN folds to nothing, and COMBINING GREEK YPOGEGRAMMENI may compose
change_examples : (change_text 0xAD unassigned soft_hyphen
    ≡ codes "00AD ; Case_Ignorable ; N -> Y\n00AD ; Default_Ignorable_Code_Point ; N -> Y\n00AD ; NFKC_CF ; <code point> -> <none>\n"
    ++ codes "00AD ; NFKC_SCF ; <code point> -> <none>\n00AD ; Changes_When_NFKC_Casefolded ; N -> Y\n00AD ; General_Category ; Cn -> Cf\n")
    × (change_text 0x41 capital_a capital_a_grave
    ≡ codes "0041 ; NFD_QC ; Y -> N\n0041 ; NFKD_QC ; Y -> N\n0041 ; NFKC_CF ; 0061 -> 00E0\n0041 ; NFKC_SCF ; 0061 -> 00E0\n0041 ; Decomposition_Type ; none -> canonical\n")
    × (change_text 0x345 (record ypogegrammeni { class = 0; nfc = Yes; nfkc = Yes }) ypogegrammeni
    ≡ codes "0345 ; NFC_QC ; Y -> M\n0345 ; NFKC_QC ; Y -> M\n0345 ; Canonical_Combining_Class ; 0 -> 240\n")
    × (change_text 0x345 ypogegrammeni ypogegrammeni ≡ [])
unfolding hex_text mapping_text digits
change_examples = (refl, refl, refl, refl)

-- the second line of a file; both lines of a range, of which the second ends the file; and a line that is not there
line_examples : (place_lines WordBreakProperty (contents (codes "# comment\r\n00AD ; Format # Cf SOFT HYPHEN\r\n")) (record { line = 2; range = false })
    ≡ codes "auxiliary/WordBreakProperty.txt line 2: 00AD ; Format # Cf SOFT HYPHEN\n")
    × (place_lines UnicodeData (contents (codes "3400;<A, First>;Lo\n4DBF;<A, Last>;Lo")) (record { line = 1; range = true })
    ≡ codes "UnicodeData.txt line 1: 3400;<A, First>;Lo\nUnicodeData.txt line 2: 4DBF;<A, Last>;Lo\n")
    × (place_lines UnicodeData (contents (codes "a\n")) (record { line = 2; range = false }) ≡ [])
unfolding contents digits
line_examples = (refl, refl, refl)
