-- Casing, quick checks, folding rounds and identifiers at some code points of Unicode 15.0.0.
-- letters     LATIN CAPITAL LETTER S and SMALL LETTER S, LATIN SMALL LETTER SHARP S, SOFT HYPHEN, LATIN CAPITAL LETTER A WITH
--             GRAVE, COMBINING GRAVE TONE MARK with its canonical mapping of one member, and LATIN CAPITAL LETTER SHARP S; all
--             others have no row
-- cycle       1 folds to 2, and 2 to 1
use Rattle.std.proofs.Common.{◌≡◌, ℕ, true, false, [], ◌∷◌, Some, None, Ok, Err, ◌==◌, if◌then◌else◌, get_or, refl}
use Rattle.ucd_model.specs.Casing.{lower, upper, title, fold, folded, lowers, uppers, titles, folds, casemaps, changes_when}
use Rattle.ucd_facts.specs.Expansion.{full}
use Rattle.ucd_facts.specs.Facts.{Facts, unassigned}
use Rattle.ucd_facts.specs.declared.decomposition.Kind.TheVariants.{Canonical}
use Rattle.ucd_facts.specs.declared.image.Image.TheVariants.{Same, To}
use Rattle.ucd_model.specs.FoldRounds.{rounds, is_last, casefold, casefold_image}
use Rattle.ucd_model.specs.Identifiers.{starts, continues}
use Rattle.ucd_model.specs.QuickChecks.{excludes_mapping, full_exclusion, quick_given, quick}
use Rattle.ucd_facts.specs.declared.category.Category.{Category}
use Rattle.ucd_facts.specs.declared.category.Category.TheVariants.{Lu, Ll, Lo, Mn, Cf}
use Rattle.ucd_facts.specs.declared.folding.Folding.TheVariants.{Full, Simple}
use Rattle.ucd_facts.specs.declared.form.Bad.TheVariants.{V5}
use Rattle.ucd_facts.specs.declared.form.Form.TheVariants.{Nfd, Nfc, Nfkd, Nfkc}
use Rattle.ucd_facts.specs.declared.form.Quick.TheVariants.{Yes, No}

abbrev one : Category → Facts
one category = record (unassigned 0) { assigned = true; category = category }

abbrev capital_s : Facts
capital_s = record (one Lu) { lower = To (0x73 ∷ []); simple_fold = 0x73; fold = To (0x73 ∷ []) }

abbrev small_s : Facts
small_s = record (one Ll) { simple_fold = 0x73; upper = To (0x53 ∷ []); title = To (0x53 ∷ []) }

abbrev sharp_s : Facts
sharp_s = record (one Ll) { upper = To (0x53 ∷ 0x53 ∷ []); title = To (0x53 ∷ 0x73 ∷ []); simple_fold = 0xDF; fold = To (0x73 ∷ 0x73 ∷ []) }

abbrev capital_sharp_s : Facts
capital_sharp_s = record (one Lu) { lower = To (0xDF ∷ []); simple_fold = 0xDF; fold = To (0x73 ∷ 0x73 ∷ []) }

abbrev letters : ℕ → Facts
letters c =
    if c == 0x53 then capital_s
    else (if c == 0x73 then small_s
    else (if c == 0xDF then sharp_s
    else (if c == 0x1E9E then capital_sharp_s
    else (if c == 0xAD then one Cf
    else (if c == 0xC0 then record (one Lu) { kind = Canonical; mapping = 0x41 ∷ 0x300 ∷ [] }
    else (if c == 0x340 then record (one Mn) { kind = Canonical; mapping = 0x300 ∷ []; class = 230 } else unassigned c))))))

-- the sharp s has more than one letter in upper case; of a title only the first cased letter is a capital
mapping_examples : (lower letters (0x53 ∷ 0xDF ∷ []) ≡ 0x73 ∷ 0xDF ∷ [])
    × (upper letters (0xDF ∷ 0x73 ∷ []) ≡ 0x53 ∷ 0x53 ∷ 0x53 ∷ [])
    × (title letters (0x2E ∷ 0xDF ∷ 0x53 ∷ []) ≡ 0x2E ∷ 0x53 ∷ 0x73 ∷ 0x73 ∷ [])
    × (fold letters (0x53 ∷ 0xDF ∷ []) ≡ 0x73 ∷ 0x73 ∷ 0x73 ∷ [])
mapping_examples = (refl, refl, refl, refl)

-- as CaseFolding.txt has it: the capital sharp s folds to two letters, and by the simple folding to the small one
folding_examples : (folded Full letters (0x1E9E ∷ 0x53 ∷ []) ≡ 0x73 ∷ 0x73 ∷ 0x73 ∷ []) × (folded Simple letters (0x1E9E ∷ 0x53 ∷ []) ≡ 0xDF ∷ 0x73 ∷ [])
folding_examples = (refl, refl)

-- as DerivedCoreProperties.txt lists them
changes_examples : (changes_when lowers letters 0x53 ≡ true) × (changes_when uppers letters 0x53 ≡ false) × (changes_when titles letters 0x53 ≡ false)
    × (changes_when folds letters 0x53 ≡ true) × (changes_when casemaps letters 0x53 ≡ true)
    × (changes_when lowers letters 0xDF ≡ false) × (changes_when uppers letters 0xDF ≡ true) × (changes_when titles letters 0xDF ≡ true)
    × (changes_when folds letters 0xDF ≡ true) × (changes_when casemaps letters 0xAD ≡ false)
unfolding full
changes_examples = (refl, refl, refl, refl, refl, refl, refl, refl, refl, refl)

-- 00C0 is composed again; 0340 has a mapping of one member, and a composite of which a part has another class is none
exclusion_examples : (full_exclusion letters 0xC0 ≡ false) × (full_exclusion letters 0x340 ≡ true) × (excludes_mapping letters 0x344 (0x340 ∷ 0x301 ∷ []) ≡ true)
exclusion_examples = (refl, refl, refl)

quick_examples : (quick_given letters Nfd 0xC0 (0x41 ∷ 0x300 ∷ []) ≡ No) × (quick_given letters Nfkd 0x53 (0x53 ∷ []) ≡ Yes)
    × (quick letters Nfd 0x53 ≡ Ok Yes) × (quick letters Nfc 0x340 ≡ Ok No) × (quick letters Nfkc 0x340 ≡ Ok No)
unfolding full
quick_examples = (refl, refl, refl, refl, refl)

-- S folds to s; SOFT HYPHEN to nothing; the capital sharp s, by the simple folding, to the small one
casefold_examples : (rounds Full letters 1 (0x53 ∷ []) ≡ Some (0x73 ∷ [])) × (is_last Full letters 0x53 0 ≡ false) × (is_last Full letters 0x53 1 ≡ true)
    × (casefold_image Full letters 0x53 ≡ Ok (To (0x73 ∷ []))) × (casefold_image Full letters 0x73 ≡ Ok Same) × (casefold_image Full letters 0xAD ≡ Ok (To []))
    × (casefold_image Simple letters 0x53 ≡ Ok (To (0x73 ∷ []))) × (casefold_image Simple letters 0x1E9E ≡ Ok (To (0xDF ∷ [])))
unfolding full
casefold_examples = (refl, refl, refl, refl, refl, refl, refl, refl)

abbrev cycle : ℕ → Facts
cycle c = get_or (unassigned 0 ∷ record (one Ll) { fold = To (2 ∷ []) } ∷ record (one Ll) { fold = To (1 ∷ []) } ∷ []) c (unassigned c)

-- no round leaves it as it is
cycle_examples : (rounds Full cycle 7 (1 ∷ []) ≡ Some (2 ∷ [])) × (casefold Full cycle 1 ≡ None) × (casefold_image Full cycle 2 ≡ Err V5)
unfolding full
cycle_examples = (refl, refl, refl)

-- an identifier does not begin with a mark, and is not empty
abbrev marked : ℕ → Facts
marked c = get_or (one Lo ∷ one Mn ∷ []) c (unassigned c)

identifier_examples : (starts marked (0 ∷ 1 ∷ []) ≡ true) × (starts marked (1 ∷ 0 ∷ []) ≡ false) × (starts marked [] ≡ false)
    × (continues marked (1 ∷ 0 ∷ []) ≡ true) × (continues marked (1 ∷ 2 ∷ []) ≡ false) × (continues marked [] ≡ true)
identifier_examples = (refl, refl, refl, refl, refl, refl)
