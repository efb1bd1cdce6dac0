-- What the definitions give at small examples. The lines and properties are those of the Unicode Character Database,
-- the others are worked out by hand.
-- between lo hi      the span from lo to hi
-- properties k flag  the first four core properties of a point with the category k and these flags
-- none               no flag; is_other_math and so on: that flag alone
-- assigned           the categories that UnicodeData.txt names
-- sample_rows        a release of three rows: 002B is Sm, 002B..002C are Lu, and 002B..10FFFF are Other_Math; an earlier
--                    row of UnicodeData.txt counts before a later one, and a file without a row here has none
-- sample             a label function: 1 and 2 have the label ` ; x`, and 3 and 5 have ` ; y`
use Rattle.std.proofs.Common.{◌≡◌, ℕ, Bool, true, false, List, [], ◌∷◌, ◌++◌, Some, None, get_or, map, filter, refl, codes}
use Rattle.std.specs.List.{range_with_len}
use Rattle.std.specs.Fmt.{digits}
use Rattle.ucd_points.specs.Bounds.{Bounds}
use Rattle.ucd_points.specs.Limits.{point_count}
use Rattle.ucd_facts.specs.Names.{category_of, category_code}
use Rattle.ucd_points.specs.Lines.{contents}
use Rattle.ucd_points.specs.MissingLines.{missing_rest, is_trivia}
use Rattle.ucd_points.specs.Fields.{fields, digit_of, point_of, span_of, is_name, is_label_closed_by, is_range_name}
use Rattle.ucd_facts.specs.declared.row.DataRow.{DataRow}
use Rattle.ucd_facts.specs.Facts.{Sources, facts, unassigned}
use Rattle.ucd_facts.specs.declared.decomposition.Kind.TheVariants.{Plain}
use Rattle.ucd_facts.specs.Predicates.{category_place, holds}
use Rattle.ucd_model.specs.Labels.{Label, LabelSpan, label_spans, labelled}
use Rattle.ucd_model.specs.DerivedText.{section_text}
use Rattle.ucd_points.specs.HexText.{hex_text, span_text}
use Rattle.ucd_facts.specs.declared.category.Category.{Category}
use Rattle.ucd_facts.specs.declared.category.Category.TheVariants.{Lu, Ll, Lt, Lm, Lo, Mn, Mc, Me, Nd, Nl, No, Pc, Pd, Ps, Pe, Pi, Pf, Po, Sm, Sc, Sk, So, Zs, Zl, Zp, Cc, Cf, Cs, Co, Cn}
use Rattle.ucd_facts.specs.declared.property.Flag.{Flag}
use Rattle.ucd_facts.specs.declared.property.Flag.TheVariants.{OtherMath, OtherLowercase, OtherUppercase, OtherAlphabetic}
use Rattle.ucd_facts.specs.declared.property.Core.{Core}
use Rattle.ucd_facts.specs.declared.property.Core.TheVariants.{Math, Alphabetic, Lowercase, Uppercase}
use Rattle.ucd_points.specs.declared.files.SourceFile.TheVariants.{UnicodeData, PropList, Scripts, WordBreakProperty}
use Rattle.ucd_facts.specs.declared.row.Row.TheVariants.{Unit as DataLine, Value as ValueLine}

abbrev between : ℕ → ℕ → Bounds
between lo hi = record { lo = lo; hi = hi }

-- ---- lines

contents_examples : (contents (codes "a\r\nb\rc\n\nd") ≡ codes "a" ∷ codes "b\rc" ∷ [] ∷ codes "d" ∷ [])
    × (contents [] ≡ [])
    × (contents (codes "a\n") ≡ codes "a" ∷ [])
    × (contents (codes "\r\n\r") ≡ [] ∷ codes "\r" ∷ [])
unfolding contents
contents_examples = (refl, refl, refl, refl)

trivia_examples : (is_trivia Scripts [] ≡ true)
    × (is_trivia Scripts (codes "  # x") ≡ true)
    × (is_trivia Scripts (codes "\t ") ≡ true)
    × (is_trivia Scripts (codes "x #") ≡ false)
unfolding missing_rest
trivia_examples = (refl, refl, refl, refl)

-- the mark of a missing line is `@missing:` to the letter, behind one `#`, and counts in two files alone
missing_examples : (is_trivia Scripts (codes "# @missing: 0000..10FFFF; Unknown") ≡ false)
    × (is_trivia WordBreakProperty (codes " #@missing:0041;MidLetter") ≡ false)
    × (is_trivia PropList (codes "# @missing: 0000..10FFFF; Unknown") ≡ true)
    × (is_trivia Scripts (codes "## @missing: 0000..10FFFF; Unknown") ≡ true)
    × (is_trivia Scripts (codes "# @Missing: 0000..10FFFF; Unknown") ≡ true)
    × (fields Scripts (codes "# @missing: 0400..04FF ; Cyrillic # x") ≡ codes "0400..04FF" ∷ codes "Cyrillic" ∷ [])
unfolding missing_rest fields
missing_examples = (refl, refl, refl, refl, refl, refl)

-- ---- fields

fields_examples : (fields PropList (codes "005E          ; Other_Math # Sk       CIRCUMFLEX ACCENT") ≡ codes "005E" ∷ codes "Other_Math" ∷ [])
    × (fields UnicodeData (codes "0023;a # b; Po ;0") ≡ codes "0023" ∷ codes "a # b" ∷ codes "Po" ∷ codes "0" ∷ [])
    × (fields UnicodeData (codes ";") ≡ [] ∷ [] ∷ [])
unfolding fields missing_rest
fields_examples = (refl, refl, refl)

digit_examples : map digit_of (codes "/09:@AFG`afg") ≡ None ∷ Some 0 ∷ Some 9 ∷ None ∷ None ∷ Some 10 ∷ Some 15 ∷ None ∷ None ∷ Some 10 ∷ Some 15 ∷ None ∷ []
digit_examples = refl

point_examples : (point_of (codes "0041") ≡ Some 0x41)
    × (point_of (codes "00e9") ≡ Some 0xE9)
    × (point_of (codes "10FFFF") ≡ Some 0x10FFFF)
    × (point_of (codes "110000") ≡ None)
    × (point_of (codes "041") ≡ None)
    × (point_of (codes "0000041") ≡ None)
    × (point_of (codes "00g1") ≡ None)
unfolding point_of
point_examples = (refl, refl, refl, refl, refl, refl, refl)

span_examples : (span_of (codes "0041..005A") ≡ Some (between 0x41 0x5A))
    × (span_of (codes "0041") ≡ Some (between 0x41 0x41))
    × (span_of (codes "005A..0041") ≡ None)
    × (span_of (codes "0041.") ≡ None)
    × (span_of (codes "0041..") ≡ None)
    × (span_of (codes "0041...0042") ≡ None)
    × (span_of (codes "0041.-0042") ≡ None)
unfolding span_of point_of
span_examples = (refl, refl, refl, refl, refl, refl, refl)

name_examples : (is_name (codes "LATIN CAPITAL LETTER A") ≡ true)
    × (is_name [] ≡ false)
    × (is_name (codes "a;b") ≡ false)
    × (is_name (codes " ~") ≡ true)
    × (is_name (codes "\u{1f}") ≡ false)
    × (is_name (codes "\u{7f}") ≡ false)
name_examples = (refl, refl, refl, refl, refl, refl)

range_name_examples : (is_range_name (codes "<CJK Ideograph, First>") ≡ true)
    × (is_range_name (codes "<CJK Ideograph, Last>") ≡ true)
    × (is_range_name (codes "<, First>") ≡ false)
    × (is_range_name (codes "CJK Ideograph, First>") ≡ false)
    × (is_range_name (codes "<control>") ≡ false)
unfolding is_label_closed_by
range_name_examples = (refl, refl, refl, refl, refl)

category_examples : (category_of (codes "Lu") ≡ Some Lu)
    × (category_of (codes "Cn") ≡ None)
    × (category_of (codes "lu") ≡ None)
    × (category_of (codes "L") ≡ None)
category_examples = (refl, refl, refl, refl)

abbrev assigned : List Category
assigned = Lu ∷ Ll ∷ Lt ∷ Lm ∷ Lo ∷ Mn ∷ Mc ∷ Me ∷ Nd ∷ Nl ∷ No ∷ Pc ∷ Pd ∷ Ps ∷ Pe ∷ Pi ∷ Pf ∷ Po ∷ Sm ∷ Sc ∷ Sk ∷ So ∷ Zs ∷ Zl ∷ Zp ∷ Cc ∷ Cf ∷ Cs ∷ Co ∷ []

-- two letters name the category that has them, and each category has its own place
every_category : (map category_of (map category_code assigned) ≡ map Some assigned)
    × (map category_place (assigned ++ Cn ∷ []) ≡ range_with_len 0 30)
every_category = (refl, refl)

-- ---- facts and properties

abbrev is_other_math : Flag → Bool
is_other_math OtherMath = true
is_other_math _ = false

abbrev is_other_lowercase : Flag → Bool
is_other_lowercase OtherLowercase = true
is_other_lowercase _ = false

abbrev is_other_uppercase : Flag → Bool
is_other_uppercase OtherUppercase = true
is_other_uppercase _ = false

abbrev is_other_alphabetic : Flag → Bool
is_other_alphabetic OtherAlphabetic = true
is_other_alphabetic _ = false

abbrev none : Flag → Bool
none _ = false

abbrev properties : Category → (Flag → Bool) → List Core
properties category flag = filter (λ core. holds core 0 (record (unassigned 0) { category = category; flag = flag })) (Math ∷ Alphabetic ∷ Lowercase ∷ Uppercase ∷ [])

-- in this order: 002B, 2016, 0041, 0061, 01C5, 02EC, 02B0, 05D0, 3007, 2160, 0300, 05B0, 0030, and a point without a row
property_examples : (properties Sm none ≡ Math ∷ [])
    × (properties Po is_other_math ≡ Math ∷ [])
    × (properties Lu none ≡ Alphabetic ∷ Uppercase ∷ [])
    × (properties Ll none ≡ Alphabetic ∷ Lowercase ∷ [])
    × (properties Lt none ≡ Alphabetic ∷ [])
    × (properties Lm none ≡ Alphabetic ∷ [])
    × (properties Lm is_other_lowercase ≡ Alphabetic ∷ Lowercase ∷ [])
    × (properties Lo none ≡ Alphabetic ∷ [])
    × (properties Nl none ≡ Alphabetic ∷ [])
    × (properties Nl is_other_uppercase ≡ Alphabetic ∷ Uppercase ∷ [])
    × (properties Mn none ≡ [])
    × (properties Mn is_other_alphabetic ≡ Alphabetic ∷ [])
    × (properties Nd none ≡ [])
    × (properties Cn none ≡ [])
property_examples = (refl, refl, refl, refl, refl, refl, refl, refl, refl, refl, refl, refl, refl, refl)

-- a row with this span and category, and nothing else
abbrev plain_row : Bounds → Category → DataRow
plain_row s k = record { span = s; range = false; name = []; category = k; class = 0; kind = Plain; mapping = []; upper = None; lower = None; title = None; kept = record { f4 = []; f6 = []; f7 = []; f8 = []; f9 = []; f10 = []; f11 = [] } }

abbrev sample_rows : Sources
sample_rows UnicodeData = DataLine (plain_row (between 0x2B 0x2B) Sm) ∷ DataLine (plain_row (between 0x2B 0x2C) Lu) ∷ []
sample_rows PropList = ValueLine (record { span = between 0x2B 0x10FFFF; value = codes "Other_Math" }) ∷ []
sample_rows _ = []

facts_examples : ((facts sample_rows 0x2A).category ≡ Cn)
    × ((facts sample_rows 0x2B).category ≡ Sm)
    × ((facts sample_rows 0x2C).category ≡ Lu)
    × ((facts sample_rows 0x2D).category ≡ Cn)
    × ((facts sample_rows 0x2A).flag OtherMath ≡ false)
    × ((facts sample_rows 0x2B).flag OtherMath ≡ true)
    × ((facts sample_rows 0x10FFFF).flag OtherMath ≡ true)
    × ((facts sample_rows 0x10FFFF).flag OtherLowercase ≡ false)
    × (facts sample_rows 0x110000 ≡ unassigned 0x110000)
unfolding facts point_count
facts_examples = (refl, refl, refl, refl, refl, refl, refl, refl, refl)

-- ---- spans and their text

abbrev sample : ℕ → Label
sample c = get_or (None ∷ Some (codes " ; x") ∷ Some (codes " ; x") ∷ Some (codes " ; y") ∷ None ∷ Some (codes " ; y") ∷ []) c None

abbrev labelled_by : List ℕ → ℕ → ℕ → LabelSpan
labelled_by label lo hi = record { bounds = between lo hi; label = label }

label_examples : (label_spans 6 sample ≡ labelled_by (codes " ; x") 1 2 ∷ labelled_by (codes " ; y") 3 3 ∷ labelled_by (codes " ; y") 5 5 ∷ [])
    × (label_spans 2 sample ≡ labelled_by (codes " ; x") 1 1 ∷ [])
    × (labelled 6 sample ≡ 4)
label_examples = (refl, refl, refl)

hex_examples : (hex_text 0 ≡ codes "0000")
    × (hex_text 0xE9 ≡ codes "00E9")
    × (hex_text 0xFFFF ≡ codes "FFFF")
    × (hex_text 0x10000 ≡ codes "10000")
    × (hex_text 0xABCDE ≡ codes "ABCDE")
    × (hex_text 0x10FFFF ≡ codes "10FFFF")
unfolding hex_text
hex_examples = (refl, refl, refl, refl, refl, refl)

span_text_examples : (span_text (between 0x41 0x41) ≡ codes "0041")
    × (span_text (between 0x41 0x5A) ≡ codes "0041..005A")
unfolding span_text hex_text
span_text_examples = (refl, refl)

section_examples : (section_text (codes "Sample") 6 sample ≡ codes "# Sample\n0001..0002 ; x\n0003 ; y\n0005 ; y\n# total 4\n\n")
    × (section_text (codes "Sample") 1 sample ≡ codes "# Sample\n# total 0\n\n")
unfolding section_text span_text hex_text digits
section_examples = (refl, refl)
