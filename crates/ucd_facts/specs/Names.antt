-- The names by which the files of the database speak of values, properties and files.
-- category_of bs         the General_Category that two bytes name; None for all other bytes, `Cn` among them. UAX #44,
--                        section 5.7.1, table 12
-- letter_of b            the one whose second byte is b, behind `L`: u l t m o are Lu Ll Lt Lm Lo; None for all other bytes, and
--                        so below
-- mark_of b              behind `M`: n c e
-- number_of b            behind `N`: d l o
-- punctuation_of b       behind `P`: c d s e i f o
-- symbol_of b            behind `S`: m c k o
-- separator_of b         behind `Z`: s l p
-- other_of b             behind `C`: c f s o
-- category_code k        the two bytes that name k
-- status_of bs           the status of a folding that one byte names; None for all other bytes. CaseFolding.txt
-- status_code s          that byte: `C`, `F`, `S` or `T`
-- tag_of bs              the tag that bytes name, `<` before its name and no `>` behind it; None for all other bytes. UAX #44,
--                        section 5.7.3, table 14
-- positional_tag_of bs   the tag where it is initial, medial, final or isolated; else None
-- shaped_tag_of bs       where it is circle, super, sub or vertical
-- sized_tag_of bs        where it is wide, narrow, small or square
-- other_tag_of bs        where it is font, noBreak, fraction or compat
-- or_else a b            the tag a where it is there, else b
-- tag_text t             the tag between `<` and `>`
-- tag_name t             the tag without `<` and `>`, a value of Decomposition_Type
-- flag_name f            the name of the property in PropList.txt. UAX #44, section 5.3
-- core_name p            the name of the property in DerivedCoreProperties.txt. UAX #44, section 5.3
-- derived_path f         where a derived file lies below the folder of the output
use Rattle.std.specs.Prelude.{ℕ, List, [], ◌∷◌, Option, Some, None, ◌==◌, if◌then◌else◌, codes, bytes_eq}
use Rattle.ucd_facts.specs.declared.category.Category.{Category}
use Rattle.ucd_facts.specs.declared.category.Category.TheVariants.{Lu, Ll, Lt, Lm, Lo, Mn, Mc, Me, Nd, Nl, No, Pc, Pd, Ps, Pe, Pi, Pf, Po, Sm, Sc, Sk, So, Zs, Zl, Zp, Cc, Cf, Cs, Co, Cn}
use Rattle.ucd_facts.specs.declared.decomposition.Tag.{Tag}
use Rattle.ucd_facts.specs.declared.decomposition.Tag.TheVariants.{Font, NoBreak, Initial, Medial, Final, Isolated, Circle, Super, Sub, Vertical, Wide, Narrow, Small, Square, Fraction, Compat}
use Rattle.ucd_facts.specs.declared.row.FoldStatus.{FoldStatus}
use Rattle.ucd_facts.specs.declared.row.FoldStatus.TheVariants.{C, F, S, T}
use Rattle.ucd_facts.specs.declared.property.Flag.{Flag}
use Rattle.ucd_facts.specs.declared.property.Flag.TheVariants.{WhiteSpace, OtherMath, OtherLowercase, OtherUppercase, OtherAlphabetic, OtherIdStart, OtherIdContinue, PatternSyntax, PatternWhiteSpace, OtherDefaultIgnorableCodePoint, VariationSelector, PrependedConcatenationMark, OtherGraphemeExtend, NoncharacterCodePoint}
use Rattle.ucd_facts.specs.declared.property.Core.{Core}
use Rattle.ucd_facts.specs.declared.property.Core.TheVariants.{Math, Alphabetic, Lowercase, Uppercase, Cased, CaseIgnorable, ChangesWhenLowercased, ChangesWhenUppercased, ChangesWhenTitlecased, ChangesWhenCasefolded, ChangesWhenCasemapped, IdStart, IdContinue, XidStart, XidContinue, DefaultIgnorableCodePoint, GraphemeExtend, GraphemeBase, GraphemeLink}
use Rattle.ucd_facts.specs.declared.files.DerivedFile.{DerivedFile}
use Rattle.ucd_facts.specs.declared.files.DerivedFile.TheVariants.{CoreProperties, NormalizationProps, GeneralCategory, CombiningClass, DecompositionType}

-- ---- categories: a first letter for the group, a second one for the category in it

abbrev pub letter_of : ℕ → Option Category
letter_of b = if b == 117 then Some Lu else (if b == 108 then Some Ll else (if b == 116 then Some Lt else (if b == 109 then Some Lm else (if b == 111 then Some Lo else None))))

abbrev pub mark_of : ℕ → Option Category
mark_of b = if b == 110 then Some Mn else (if b == 99 then Some Mc else (if b == 101 then Some Me else None))

abbrev pub number_of : ℕ → Option Category
number_of b = if b == 100 then Some Nd else (if b == 108 then Some Nl else (if b == 111 then Some No else None))

abbrev pub punctuation_of : ℕ → Option Category
punctuation_of b = if b == 99 then Some Pc else (if b == 100 then Some Pd else (if b == 115 then Some Ps else (if b == 101 then Some Pe else (if b == 105 then Some Pi else (if b == 102 then Some Pf else (if b == 111 then Some Po else None))))))

abbrev pub symbol_of : ℕ → Option Category
symbol_of b = if b == 109 then Some Sm else (if b == 99 then Some Sc else (if b == 107 then Some Sk else (if b == 111 then Some So else None)))

abbrev pub separator_of : ℕ → Option Category
separator_of b = if b == 115 then Some Zs else (if b == 108 then Some Zl else (if b == 112 then Some Zp else None))

abbrev pub other_of : ℕ → Option Category
other_of b = if b == 99 then Some Cc else (if b == 102 then Some Cf else (if b == 115 then Some Cs else (if b == 111 then Some Co else None)))

abbrev pub category_of : List ℕ → Option Category
category_of (a ∷ b ∷ []) = if a == 76 then letter_of b else (if a == 77 then mark_of b else (if a == 78 then number_of b else (if a == 80 then punctuation_of b else (if a == 83 then symbol_of b else (if a == 90 then separator_of b else (if a == 67 then other_of b else None))))))
category_of _ = None

abbrev pub category_code : Category → List ℕ
category_code Lu = codes "Lu"
category_code Ll = codes "Ll"
category_code Lt = codes "Lt"
category_code Lm = codes "Lm"
category_code Lo = codes "Lo"
category_code Mn = codes "Mn"
category_code Mc = codes "Mc"
category_code Me = codes "Me"
category_code Nd = codes "Nd"
category_code Nl = codes "Nl"
category_code No = codes "No"
category_code Pc = codes "Pc"
category_code Pd = codes "Pd"
category_code Ps = codes "Ps"
category_code Pe = codes "Pe"
category_code Pi = codes "Pi"
category_code Pf = codes "Pf"
category_code Po = codes "Po"
category_code Sm = codes "Sm"
category_code Sc = codes "Sc"
category_code Sk = codes "Sk"
category_code So = codes "So"
category_code Zs = codes "Zs"
category_code Zl = codes "Zl"
category_code Zp = codes "Zp"
category_code Cc = codes "Cc"
category_code Cf = codes "Cf"
category_code Cs = codes "Cs"
category_code Co = codes "Co"
category_code Cn = codes "Cn"

-- ---- statuses of foldings

abbrev pub status_of : List ℕ → Option FoldStatus
status_of (b ∷ []) = if b == 67 then Some C else (if b == 70 then Some F else (if b == 83 then Some S else (if b == 84 then Some T else None)))
status_of _ = None

abbrev pub status_code : FoldStatus → ℕ
status_code C = 67
status_code F = 70
status_code S = 83
status_code T = 84

-- ---- tags of compatibility mappings

unfoldable pub positional_tag_of : List ℕ → Option Tag
positional_tag_of bs = if bytes_eq bs (codes "<initial") then Some Initial else (if bytes_eq bs (codes "<medial") then Some Medial else (if bytes_eq bs (codes "<final") then Some Final else (if bytes_eq bs (codes "<isolated") then Some Isolated else None)))

unfoldable pub shaped_tag_of : List ℕ → Option Tag
shaped_tag_of bs = if bytes_eq bs (codes "<circle") then Some Circle else (if bytes_eq bs (codes "<super") then Some Super else (if bytes_eq bs (codes "<sub") then Some Sub else (if bytes_eq bs (codes "<vertical") then Some Vertical else None)))

unfoldable pub sized_tag_of : List ℕ → Option Tag
sized_tag_of bs = if bytes_eq bs (codes "<wide") then Some Wide else (if bytes_eq bs (codes "<narrow") then Some Narrow else (if bytes_eq bs (codes "<small") then Some Small else (if bytes_eq bs (codes "<square") then Some Square else None)))

unfoldable pub other_tag_of : List ℕ → Option Tag
other_tag_of bs = if bytes_eq bs (codes "<font") then Some Font else (if bytes_eq bs (codes "<noBreak") then Some NoBreak else (if bytes_eq bs (codes "<fraction") then Some Fraction else (if bytes_eq bs (codes "<compat") then Some Compat else None)))

abbrev pub or_else : Option Tag → Option Tag → Option Tag
or_else (Some t) other = Some t
or_else None other = other

abbrev pub tag_of : List ℕ → Option Tag
tag_of bs = or_else (positional_tag_of bs) (or_else (shaped_tag_of bs) (or_else (sized_tag_of bs) (other_tag_of bs)))

abbrev pub tag_text : Tag → List ℕ
tag_text Font = codes "<font>"
tag_text NoBreak = codes "<noBreak>"
tag_text Initial = codes "<initial>"
tag_text Medial = codes "<medial>"
tag_text Final = codes "<final>"
tag_text Isolated = codes "<isolated>"
tag_text Circle = codes "<circle>"
tag_text Super = codes "<super>"
tag_text Sub = codes "<sub>"
tag_text Vertical = codes "<vertical>"
tag_text Wide = codes "<wide>"
tag_text Narrow = codes "<narrow>"
tag_text Small = codes "<small>"
tag_text Square = codes "<square>"
tag_text Fraction = codes "<fraction>"
tag_text Compat = codes "<compat>"

abbrev pub tag_name : Tag → List ℕ
tag_name Font = codes "font"
tag_name NoBreak = codes "noBreak"
tag_name Initial = codes "initial"
tag_name Medial = codes "medial"
tag_name Final = codes "final"
tag_name Isolated = codes "isolated"
tag_name Circle = codes "circle"
tag_name Super = codes "super"
tag_name Sub = codes "sub"
tag_name Vertical = codes "vertical"
tag_name Wide = codes "wide"
tag_name Narrow = codes "narrow"
tag_name Small = codes "small"
tag_name Square = codes "square"
tag_name Fraction = codes "fraction"
tag_name Compat = codes "compat"

-- ---- properties

abbrev pub flag_name : Flag → List ℕ
flag_name WhiteSpace = codes "White_Space"
flag_name OtherMath = codes "Other_Math"
flag_name OtherLowercase = codes "Other_Lowercase"
flag_name OtherUppercase = codes "Other_Uppercase"
flag_name OtherAlphabetic = codes "Other_Alphabetic"
flag_name OtherIdStart = codes "Other_ID_Start"
flag_name OtherIdContinue = codes "Other_ID_Continue"
flag_name PatternSyntax = codes "Pattern_Syntax"
flag_name PatternWhiteSpace = codes "Pattern_White_Space"
flag_name OtherDefaultIgnorableCodePoint = codes "Other_Default_Ignorable_Code_Point"
flag_name VariationSelector = codes "Variation_Selector"
flag_name PrependedConcatenationMark = codes "Prepended_Concatenation_Mark"
flag_name OtherGraphemeExtend = codes "Other_Grapheme_Extend"
flag_name NoncharacterCodePoint = codes "Noncharacter_Code_Point"

abbrev pub core_name : Core → List ℕ
core_name Math = codes "Math"
core_name Alphabetic = codes "Alphabetic"
core_name Lowercase = codes "Lowercase"
core_name Uppercase = codes "Uppercase"
core_name Cased = codes "Cased"
core_name CaseIgnorable = codes "Case_Ignorable"
core_name ChangesWhenLowercased = codes "Changes_When_Lowercased"
core_name ChangesWhenUppercased = codes "Changes_When_Uppercased"
core_name ChangesWhenTitlecased = codes "Changes_When_Titlecased"
core_name ChangesWhenCasefolded = codes "Changes_When_Casefolded"
core_name ChangesWhenCasemapped = codes "Changes_When_Casemapped"
core_name IdStart = codes "ID_Start"
core_name IdContinue = codes "ID_Continue"
core_name XidStart = codes "XID_Start"
core_name XidContinue = codes "XID_Continue"
core_name DefaultIgnorableCodePoint = codes "Default_Ignorable_Code_Point"
core_name GraphemeExtend = codes "Grapheme_Extend"
core_name GraphemeBase = codes "Grapheme_Base"
core_name GraphemeLink = codes "Grapheme_Link"

-- ---- files

abbrev pub derived_path : DerivedFile → List ℕ
derived_path CoreProperties = codes "DerivedCoreProperties.txt"
derived_path NormalizationProps = codes "DerivedNormalizationProps.txt"
derived_path GeneralCategory = codes "extracted/DerivedGeneralCategory.txt"
derived_path CombiningClass = codes "extracted/DerivedCombiningClass.txt"
derived_path DecompositionType = codes "extracted/DerivedDecompositionType.txt"
