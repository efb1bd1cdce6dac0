-- What tests say of some code points of Unicode 15.0.0, by lines of its files.
-- line lo hi value   a line of a span and a value
-- letter_a           the line of LATIN CAPITAL LETTER A
-- sample             UnicodeData.txt: that line. Scripts.txt: 0041..005A and 0061..007A are Latin, 0370..0373 is Greek.
--                    WordBreakProperty.txt: 0022 is Double_Quote, 0027 is Single_Quote. PropList.txt: 0009..000D and 0020 are
--                    White_Space, and 0020 is Pattern_White_Space too
-- values k           a record of category k, class 230 and kind Canonical, with Alphabetic alone, of which NFC's check is Maybe
use Rattle.std.proofs.Common.{◌≡◌, ℕ, Bool, true, false, ◌==◌, List, [], ◌∷◌, Some, None, map, refl, codes}
use Rattle.ucd_facts.specs.Facts.{Sources}
use Rattle.ucd_facts.specs.declared.decomposition.Kind.TheVariants.{Plain, Canonical}
use Rattle.ucd_facts.specs.declared.image.Image.TheVariants.{Same}
use Rattle.ucd_model.specs.Records.{Record}
use Rattle.ucd_facts.specs.Sets.{core_place}
use Rattle.ucd_facts.specs.declared.category.Category.{Category}
use Rattle.ucd_facts.specs.declared.category.Category.TheVariants.{Lu, Lt, Lm, Mn, Mc, Nl, Pi, Sk, Zl, Cn}
use Rattle.ucd_points.specs.declared.files.SourceFile.TheVariants.{UnicodeData, PropList, Scripts, WordBreakProperty}
use Rattle.ucd_facts.specs.declared.form.Form.TheVariants.{Nfd, Nfc}
use Rattle.ucd_facts.specs.declared.form.Quick.TheVariants.{Yes, No, Maybe}
use Rattle.ucd_facts.specs.declared.property.Core.TheVariants.{Math, Alphabetic}
use Rattle.ucd_facts.specs.declared.row.DataRow.{DataRow}
use Rattle.ucd_facts.specs.declared.row.Row.{Row}
use Rattle.ucd_facts.specs.declared.row.Row.TheVariants.{Unit as DataLine, Value as ValueLine}
use Rattle.property_aliases.specs.declared.property.Group.TheVariants.{L, LC, M, N, P, S, Z, C}
use Rattle.property_aliases.specs.declared.property.Test.{Test}
use Rattle.property_aliases.specs.declared.property.Test.TheVariants.{Any, Ascii, Assigned, Group, Category as CategoryTest, Script, Class, Decomposition, WordBreak, Quick, Core, Exclusion, ChangesCasefold, Listed}
use Rattle.unicodeset_eval.specs.Tests.{passes, test_holds}

abbrev line : ℕ → ℕ → List ℕ → Row
line lo hi value = ValueLine (record { span = record { lo = lo; hi = hi }; value = value })

abbrev letter_a : DataRow
letter_a = record { span = record { lo = 0x41; hi = 0x41 }; range = false; name = codes "LATIN CAPITAL LETTER A"; category = Lu; class = 0; kind = Plain; mapping = []; upper = None; lower = Some 0x61; title = None; kept = record { f4 = codes "L"; f6 = []; f7 = []; f8 = []; f9 = codes "N"; f10 = []; f11 = [] } }

abbrev sample : Sources
sample Scripts = line 0x41 0x5A (codes "Latin") ∷ line 0x61 0x7A (codes "Latin") ∷ line 0x370 0x373 (codes "Greek") ∷ []
sample UnicodeData = DataLine letter_a ∷ []
sample WordBreakProperty = line 0x22 0x22 (codes "Double_Quote") ∷ line 0x27 0x27 (codes "Single_Quote") ∷ []
sample PropList = line 0x9 0xD (codes "White_Space") ∷ line 0x20 0x20 (codes "White_Space") ∷ line 0x20 0x20 (codes "Pattern_White_Space") ∷ []
sample _ = []

abbrev values : Category → Record
values k = record {
  category = k;
  class = 230;
  kind = Canonical;
  core = λ core. core_place core == core_place Alphabetic;
  exclusion = true;
  nfd = No;
  nfc = Maybe;
  nfkd = No;
  nfkc = Maybe;
  casefold = Same;
  simple_casefold = Same;
  changes_casefold = false;
}

abbrev says : Test → ℕ → Bool
says test c = test_holds (λ _. values Mn) sample test c

-- LATIN CAPITAL LETTER A, LATIN SMALL LETTER Z, GREEK CAPITAL LETTER HETA, and 0378, which no row covers; 3 is no number of a script
script_examples : (map (says (Script 0)) (0x41 ∷ 0x7A ∷ 0x370 ∷ 0x378 ∷ []) ≡ false ∷ false ∷ false ∷ true ∷ [])
    × (map (says (Script 1)) (0x41 ∷ 0x7A ∷ 0x370 ∷ 0x378 ∷ []) ≡ true ∷ true ∷ false ∷ false ∷ [])
    × (map (says (Script 2)) (0x41 ∷ 0x7A ∷ 0x370 ∷ 0x378 ∷ []) ≡ false ∷ false ∷ true ∷ false ∷ [])
    × (map (says (Script 3)) (0x41 ∷ 0x7A ∷ 0x370 ∷ 0x378 ∷ []) ≡ false ∷ false ∷ false ∷ false ∷ [])
script_examples = (refl, refl, refl, refl)

-- QUOTATION MARK, APOSTROPHE and LATIN CAPITAL LETTER A
break_examples : (map (says (WordBreak 0)) (0x22 ∷ 0x27 ∷ 0x41 ∷ []) ≡ false ∷ false ∷ true ∷ [])
    × (map (says (WordBreak 2)) (0x22 ∷ 0x27 ∷ 0x41 ∷ []) ≡ false ∷ true ∷ false ∷ [])
break_examples = (refl, refl)

-- CHARACTER TABULATION, SPACE and LATIN CAPITAL LETTER A; SPACE has both properties; 2 is no number of a property
listed_examples : (map (says (Listed 0 true)) (0x9 ∷ 0x20 ∷ 0x41 ∷ []) ≡ true ∷ true ∷ false ∷ [])
    × (map (says (Listed 0 false)) (0x9 ∷ 0x20 ∷ 0x41 ∷ []) ≡ false ∷ false ∷ true ∷ [])
    × (map (says (Listed 1 true)) (0x9 ∷ 0x20 ∷ 0x41 ∷ []) ≡ false ∷ true ∷ false ∷ [])
    × (map (says (Listed 2 true)) (0x9 ∷ 0x20 ∷ 0x41 ∷ []) ≡ false ∷ false ∷ false ∷ [])
listed_examples = (refl, refl, refl, refl)

-- the last of ASCII, and the first behind; a code point with a row, and one without
other_examples : (map (says Any) (0x0 ∷ 0x10FFFF ∷ []) ≡ true ∷ true ∷ [])
    × (map (says Ascii) (0x0 ∷ 0x7F ∷ 0x80 ∷ []) ≡ true ∷ true ∷ false ∷ [])
    × (map (says Assigned) (0x40 ∷ 0x41 ∷ 0x42 ∷ []) ≡ false ∷ true ∷ false ∷ [])
other_examples = (refl, refl, refl)

-- a titlecase letter is a cased letter, a modifier letter is none; an unassigned code point is in C
group_examples : (map (λ group. passes (Group group) (values Lt)) (L ∷ LC ∷ M ∷ N ∷ P ∷ S ∷ Z ∷ C ∷ []) ≡ true ∷ true ∷ false ∷ false ∷ false ∷ false ∷ false ∷ false ∷ [])
    × (map (λ group. passes (Group group) (values Lm)) (L ∷ LC ∷ M ∷ N ∷ P ∷ S ∷ Z ∷ C ∷ []) ≡ true ∷ false ∷ false ∷ false ∷ false ∷ false ∷ false ∷ false ∷ [])
    × (map (λ group. passes (Group group) (values Mc)) (L ∷ LC ∷ M ∷ N ∷ P ∷ S ∷ Z ∷ C ∷ []) ≡ false ∷ false ∷ true ∷ false ∷ false ∷ false ∷ false ∷ false ∷ [])
    × (map (λ group. passes (Group group) (values Nl)) (L ∷ LC ∷ M ∷ N ∷ P ∷ S ∷ Z ∷ C ∷ []) ≡ false ∷ false ∷ false ∷ true ∷ false ∷ false ∷ false ∷ false ∷ [])
    × (map (λ group. passes (Group group) (values Pi)) (L ∷ LC ∷ M ∷ N ∷ P ∷ S ∷ Z ∷ C ∷ []) ≡ false ∷ false ∷ false ∷ false ∷ true ∷ false ∷ false ∷ false ∷ [])
    × (map (λ group. passes (Group group) (values Sk)) (L ∷ LC ∷ M ∷ N ∷ P ∷ S ∷ Z ∷ C ∷ []) ≡ false ∷ false ∷ false ∷ false ∷ false ∷ true ∷ false ∷ false ∷ [])
    × (map (λ group. passes (Group group) (values Zl)) (L ∷ LC ∷ M ∷ N ∷ P ∷ S ∷ Z ∷ C ∷ []) ≡ false ∷ false ∷ false ∷ false ∷ false ∷ false ∷ true ∷ false ∷ [])
    × (map (λ group. passes (Group group) (values Cn)) (L ∷ LC ∷ M ∷ N ∷ P ∷ S ∷ Z ∷ C ∷ []) ≡ false ∷ false ∷ false ∷ false ∷ false ∷ false ∷ false ∷ true ∷ [])
group_examples = (refl, refl, refl, refl, refl, refl, refl, refl)

-- of a mark whose canonical mapping is excluded from composition, as COMBINING GREEK KORONIS has it
value_examples : (map (λ test. passes test (values Mn)) (CategoryTest Mn ∷ CategoryTest Mc ∷ Class 230 ∷ Class 0 ∷ Decomposition Canonical ∷ Decomposition Plain ∷ []) ≡ true ∷ false ∷ true ∷ false ∷ true ∷ false ∷ [])
    × (map (λ test. passes test (values Mn)) (Quick Nfd No ∷ Quick Nfd Yes ∷ Quick Nfc Maybe ∷ Quick Nfc No ∷ []) ≡ true ∷ false ∷ true ∷ false ∷ [])
    × (map (λ test. passes test (values Mn)) (Core Alphabetic true ∷ Core Alphabetic false ∷ Core Math true ∷ Core Math false ∷ []) ≡ true ∷ false ∷ false ∷ true ∷ [])
    × (map (λ test. passes test (values Mn)) (Exclusion true ∷ Exclusion false ∷ ChangesCasefold true ∷ ChangesCasefold false ∷ []) ≡ true ∷ false ∷ false ∷ true ∷ [])
value_examples = (refl, refl, refl, refl)
