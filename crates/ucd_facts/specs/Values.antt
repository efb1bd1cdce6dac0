-- The value of Script and of Word_Break of a code point, found by looking through the plain list of rows of their file. UAX #44,
-- sections 4.2.10 and 5.3; UAX #24, section 2; UAX #29, section 4.1.
-- gives_some c row          a row with a value that covers c: of PropList.txt, Scripts.txt or WordBreakProperty.txt, no missing row
-- value_in d row            the value of the row that was found; d where there is none, and for a row of another file
-- taken_missing c d row     the value of a missing row that covers c; d for every other row
-- missing_value rows d c    the value of the last missing row that covers c; d where none does
-- value_at rows d c         the value of the first row that covers c and is no missing row; where none does, that of the last missing
--                           row that covers c; d where none does
-- default_script            Unknown, the Script of what no row covers
-- default_word_break        Other, the Word_Break of what no row covers
-- script_at rows c          the Script of c, by the rows of Scripts.txt
-- word_break_at rows c      the Word_Break of c, by the rows of WordBreakProperty.txt
-- mid_word_values           the values of Word_Break in the middle of a word: MidLetter, MidNumLet and Single_Quote
-- is_mid_word value         the value of Word_Break is one of them
-- mid_word_at rows c        whether the Word_Break value of c is one of them
use Rattle.std.specs.Prelude.{ℕ, Bool, false, List, [], ◌∷◌, Option, Some, find, fold, codes, if◌then◌else◌, bytes_eq}
use Rattle.std.specs.List.{list_any}
use Rattle.ucd_points.specs.Bounds.{within}
use Rattle.ucd_facts.specs.declared.row.Row.{Row}
use Rattle.ucd_facts.specs.declared.row.Row.TheVariants.{Value as ValueLine, Missing as MissingLine}

abbrev pub gives_some : ℕ → Row → Bool
gives_some c (ValueLine row) = within c row.span
gives_some c _ = false

abbrev pub value_in : List ℕ → Option Row → List ℕ
value_in default (Some (ValueLine row)) = row.value
value_in default _ = default

abbrev pub taken_missing : ℕ → List ℕ → Row → List ℕ
taken_missing c default (MissingLine row) = if within c row.span then row.value else default
taken_missing c default _ = default

abbrev pub missing_value : List Row → List ℕ → ℕ → List ℕ
missing_value rows default c = fold (taken_missing c) default rows

abbrev pub value_at : List Row → List ℕ → ℕ → List ℕ
value_at rows default c = value_in (missing_value rows default c) (find (gives_some c) rows)

abbrev pub default_script : List ℕ
default_script = codes "Unknown"

abbrev pub default_word_break : List ℕ
default_word_break = codes "Other"

abbrev pub script_at : List Row → ℕ → List ℕ
script_at rows c = value_at rows default_script c

abbrev pub word_break_at : List Row → ℕ → List ℕ
word_break_at rows c = value_at rows default_word_break c

abbrev pub mid_word_values : List (List ℕ)
mid_word_values = codes "MidLetter" ∷ codes "MidNumLet" ∷ codes "Single_Quote" ∷ []

abbrev pub is_mid_word : List ℕ → Bool
is_mid_word value = list_any (bytes_eq value) mid_word_values

abbrev pub mid_word_at : List Row → ℕ → Bool
mid_word_at rows c = is_mid_word (word_break_at rows c)
