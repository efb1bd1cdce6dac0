-- Sets of properties, kept as the bits of a word.
-- has_bit word place   whether the bit at the place is 1; the place counts from the lowest bit, 0
-- flag_place f         the place of a flag in the order of Flag; core_place: of a core property in that of Core
-- has_flag s f         whether the flag is in the set; has_core: whether the core property is
use Rattle.std.specs.Prelude.{ℕ, Bool, ◌==◌}
use Rattle.std.specs.Int.{bit_at}
use Rattle.ucd_facts.specs.declared.property.Flag.{Flag}
use Rattle.ucd_facts.specs.declared.property.Flag.TheVariants.{WhiteSpace, OtherMath, OtherLowercase, OtherUppercase, OtherAlphabetic, OtherIdStart, OtherIdContinue, PatternSyntax, PatternWhiteSpace, OtherDefaultIgnorableCodePoint, VariationSelector, PrependedConcatenationMark, OtherGraphemeExtend, NoncharacterCodePoint}
use Rattle.ucd_facts.specs.declared.property.Core.{Core}
use Rattle.ucd_facts.specs.declared.property.Core.TheVariants.{Math, Alphabetic, Lowercase, Uppercase, Cased, CaseIgnorable, ChangesWhenLowercased, ChangesWhenUppercased, ChangesWhenTitlecased, ChangesWhenCasefolded, ChangesWhenCasemapped, IdStart, IdContinue, XidStart, XidContinue, DefaultIgnorableCodePoint, GraphemeExtend, GraphemeBase, GraphemeLink}

abbrev pub has_bit : ℕ → ℕ → Bool
has_bit word place = bit_at word place == 1

abbrev pub flag_place : Flag → ℕ
flag_place WhiteSpace = 0
flag_place OtherMath = 1
flag_place OtherLowercase = 2
flag_place OtherUppercase = 3
flag_place OtherAlphabetic = 4
flag_place OtherIdStart = 5
flag_place OtherIdContinue = 6
flag_place PatternSyntax = 7
flag_place PatternWhiteSpace = 8
flag_place OtherDefaultIgnorableCodePoint = 9
flag_place VariationSelector = 10
flag_place PrependedConcatenationMark = 11
flag_place OtherGraphemeExtend = 12
flag_place NoncharacterCodePoint = 13

abbrev pub core_place : Core → ℕ
core_place Math = 0
core_place Alphabetic = 1
core_place Lowercase = 2
core_place Uppercase = 3
core_place Cased = 4
core_place CaseIgnorable = 5
core_place ChangesWhenLowercased = 6
core_place ChangesWhenUppercased = 7
core_place ChangesWhenTitlecased = 8
core_place ChangesWhenCasefolded = 9
core_place ChangesWhenCasemapped = 10
core_place IdStart = 11
core_place IdContinue = 12
core_place XidStart = 13
core_place XidContinue = 14
core_place DefaultIgnorableCodePoint = 15
core_place GraphemeExtend = 16
core_place GraphemeBase = 17
core_place GraphemeLink = 18

abbrev pub has_flag : ℕ → Flag → Bool
has_flag set flag = has_bit set (flag_place flag)

abbrev pub has_core : ℕ → Core → Bool
has_core set core = has_bit set (core_place core)
