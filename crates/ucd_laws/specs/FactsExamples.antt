-- The facts of some code points. The rows are lines of the Unicode Character Database, but for the kept fields.
--
-- 0049 00C0 01C6 0130 0958 1E9E AC00..D7A3   rows of UnicodeData.txt
-- 0027 003A 0041..0049                        Single_Quote and MidLetter, and three missing rows; 0958 is excluded from composition
-- 0130                                       a casing row for Turkish, and one without conditions
-- 0049 0130 1E9E                             foldings of each status
use Rattle.std.proofs.Common.{◌≡◌, ℕ, true, false, [], ◌∷◌, Some, None, refl, codes}
use Rattle.ucd_points.specs.Bounds.{Bounds}
use Rattle.ucd_points.specs.Limits.{point_count}
use Rattle.ucd_facts.specs.Facts.{Sources, Facts, facts, unassigned}
use Rattle.ucd_facts.specs.declared.decomposition.Kind.TheVariants.{Plain, Canonical, Compat}
use Rattle.ucd_facts.specs.declared.image.Image.TheVariants.{Same, To}
use Rattle.ucd_facts.specs.Composites.{pair_below, second_below}
use Rattle.ucd_facts.specs.Expansion.{expand, full}
use Rattle.ucd_facts.specs.declared.category.Category.{Category}
use Rattle.ucd_facts.specs.declared.category.Category.TheVariants.{Lu, Ll, Lo, Mn}
use Rattle.ucd_facts.specs.declared.decomposition.Tag.TheVariants.{Compat as CompatTag}
use Rattle.ucd_points.specs.declared.files.SourceFile.TheVariants.{UnicodeData, WordBreakProperty, CompositionExclusions, CaseFolding, SpecialCasing}
use Rattle.ucd_facts.specs.declared.row.DataRow.{DataRow}
use Rattle.ucd_facts.specs.declared.row.Row.TheVariants.{Unit as DataLine, Value as ValueLine, Exclusion as ExclusionLine, Fold as FoldLine, Casing as CasingLine, Missing as MissingLine}
use Rattle.ucd_facts.specs.declared.row.FoldStatus.TheVariants as status

abbrev one : ℕ → Bounds
one c = record { lo = c; hi = c }

-- a row of a span and a category, with nothing in its other fields
abbrev plain : Bounds → Category → DataRow
plain s k = record { span = s; range = false; name = []; category = k; class = 0; kind = Plain; mapping = []; upper = None; lower = None; title = None; kept = record { f4 = []; f6 = []; f7 = []; f8 = []; f9 = []; f10 = []; f11 = [] } }

abbrev sample : Sources
sample UnicodeData =
    DataLine (record (plain (one 0x49) Lu) { lower = Some 0x69 })
    ∷ DataLine (record (plain (one 0xC0) Lu) { kind = Canonical; mapping = 0x41 ∷ 0x300 ∷ []; lower = Some 0xE0 })
    ∷ DataLine (record (plain (one 0x130) Lu) { kind = Canonical; mapping = 0x49 ∷ 0x307 ∷ []; lower = Some 0x69 })
    ∷ DataLine (record (plain (one 0x1C6) Ll) { kind = Compat CompatTag; mapping = 0x64 ∷ 0x17E ∷ []; upper = Some 0x1C4; title = Some 0x1C5 })
    ∷ DataLine (record (plain (one 0x300) Mn) { class = 230 })
    ∷ DataLine (record (plain (one 0x958) Lo) { kind = Canonical; mapping = 0x915 ∷ 0x93C ∷ [] })
    ∷ DataLine (plain (one 0x1E9E) Lu)
    ∷ DataLine (record (plain (record { lo = 0xAC00; hi = 0xD7A3 }) Lo) { range = true; name = codes "Hangul Syllable" })
    ∷ []
sample WordBreakProperty = ValueLine (record { span = one 0x27; value = codes "Single_Quote" }) ∷ ValueLine (record { span = one 0x3A; value = codes "MidLetter" }) ∷ ValueLine (record { span = one 0x49; value = codes "ALetter" }) ∷ MissingLine (record { span = record { lo = 0x41; hi = 0x49 }; value = codes "MidLetter" }) ∷ MissingLine (record { span = record { lo = 0x42; hi = 0x49 }; value = codes "ALetter" })
    ∷ MissingLine (record { span = one 0x49; value = codes "MidNumLet" }) ∷ []
sample CompositionExclusions = ExclusionLine (record { span = one 0x958 }) ∷ []
sample CaseFolding =
    FoldLine (record { code = 0x49; status = status.T; mapping = 0x131 ∷ [] })
    ∷ FoldLine (record { code = 0x49; status = status.C; mapping = 0x69 ∷ [] })
    ∷ FoldLine (record { code = 0x130; status = status.F; mapping = 0x69 ∷ 0x307 ∷ [] })
    ∷ FoldLine (record { code = 0x130; status = status.T; mapping = 0x69 ∷ [] })
    ∷ FoldLine (record { code = 0x1E9E; status = status.F; mapping = 0x73 ∷ 0x73 ∷ [] })
    ∷ FoldLine (record { code = 0x1E9E; status = status.S; mapping = 0xDF ∷ [] })
    ∷ []
sample SpecialCasing =
    CasingLine (record { code = 0x130; lower = 0x69 ∷ []; title = 0x130 ∷ []; upper = 0x130 ∷ []; conditions = codes "tr" })
    ∷ CasingLine (record { code = 0x130; lower = 0x69 ∷ 0x307 ∷ []; title = 0x130 ∷ []; upper = 0x130 ∷ []; conditions = [] })
    ∷ CasingLine (record { code = 0xDF; lower = 0xDF ∷ []; title = 0x53 ∷ 0x73 ∷ []; upper = 0x53 ∷ 0x53 ∷ []; conditions = [] })
    ∷ []
sample _ = []

abbrev F : ℕ → Facts
F = facts sample

-- LATIN CAPITAL LETTER A WITH GRAVE
grave_examples : ((F 0xC0).assigned ≡ true)
    × ((F 0xC0).category ≡ Lu)
    × ((F 0xC0).kind ≡ Canonical)
    × ((F 0xC0).mapping ≡ 0x41 ∷ 0x300 ∷ [])
    × ((F 0xC0).simple_lower ≡ 0xE0)
    × ((F 0xC0).simple_upper ≡ 0xC0)
    × ((F 0xC0).lower ≡ To (0xE0 ∷ []))
    × ((F 0xC0).upper ≡ Same)
    × ((F 0x300).class ≡ 230)
unfolding facts point_count
grave_examples = (refl, refl, refl, refl, refl, refl, refl, refl, refl)

-- the first, second, twenty-ninth and last syllable, and the points beside them
hangul_examples : ((F 0xAC00).mapping ≡ 0x1100 ∷ 0x1161 ∷ [])
    × ((F 0xAC01).mapping ≡ 0xAC00 ∷ 0x11A8 ∷ [])
    × ((F 0xAC1C).mapping ≡ 0x1100 ∷ 0x1162 ∷ [])
    × ((F 0xD4DB).mapping ≡ 0xD4CC ∷ 0x11B6 ∷ [])
    × ((F 0xD7A3).mapping ≡ 0xD788 ∷ 0x11C2 ∷ [])
    × ((F 0xAC01).kind ≡ Canonical)
    × ((F 0xABFF).kind ≡ Plain)
    × ((F 0xD7A4).mapping ≡ [])
unfolding facts point_count
hangul_examples = (refl, refl, refl, refl, refl, refl, refl, refl)

-- a row with conditions is not looked at; the title mapping of a row without one is its upper mapping
casing_examples : ((F 0x130).lower ≡ To (0x69 ∷ 0x307 ∷ []))
    × ((F 0x130).simple_lower ≡ 0x69)
    × ((F 0x130).upper ≡ Same)
    × ((F 0xDF).upper ≡ To (0x53 ∷ 0x53 ∷ []))
    × ((F 0xDF).title ≡ To (0x53 ∷ 0x73 ∷ []))
    × ((F 0xDF).lower ≡ Same)
    × ((F 0x1C6).simple_title ≡ 0x1C5)
    × ((F 0x1C6).title ≡ To (0x1C5 ∷ []))
    × ((F 0x1C6).upper ≡ To (0x1C4 ∷ []))
unfolding facts point_count
casing_examples = (refl, refl, refl, refl, refl, refl, refl, refl, refl)

-- F before C for the whole folding, S before C for the simple one, and T for neither
folding_examples : ((F 0x49).fold ≡ To (0x69 ∷ []))
    × ((F 0x49).simple_fold ≡ 0x69)
    × ((F 0x130).fold ≡ To (0x69 ∷ 0x307 ∷ []))
    × ((F 0x130).simple_fold ≡ 0x130)
    × ((F 0x1E9E).fold ≡ To (0x73 ∷ 0x73 ∷ []))
    × ((F 0x1E9E).simple_fold ≡ 0xDF)
    × ((F 0xC0).fold ≡ Same)
unfolding facts point_count
folding_examples = (refl, refl, refl, refl, refl, refl, refl)

-- the last missing row that covers a code point counts, and none where another row covers it
missing_examples : ((F 0x41).mid_word ≡ true)
    × ((F 0x42).mid_word ≡ false)
    × ((F 0x49).mid_word ≡ false)
    × ((F 0x4A).mid_word ≡ false)
unfolding facts point_count
missing_examples = (refl, refl, refl, refl)

other_examples : ((F 0x27).mid_word ≡ true)
    × ((F 0x3A).mid_word ≡ true)
    × ((F 0x49).mid_word ≡ false)
    × ((F 0x958).excluded ≡ true)
    × ((F 0x957).excluded ≡ false)
    × (F 0x3FF ≡ unassigned 0x3FF)
    × (F 0x110000 ≡ unassigned 0x110000)
unfolding facts point_count
other_examples = (refl, refl, refl, refl, refl, refl, refl)

-- 0958 is excluded, and the mapping of 01C6 is no canonical one
composite_examples : (pair_below 0xC1 F 0x41 0x300 ≡ Some 0xC0)
    × (pair_below 0xC0 F 0x41 0x300 ≡ None)
    × (pair_below 0x959 F 0x915 0x93C ≡ None)
    × (pair_below 0x1C7 F 0x64 0x17E ≡ None)
    × (second_below 0xC1 F 0x300 ≡ true)
    × (second_below 0x959 F 0x93C ≡ false)
unfolding facts point_count
composite_examples = (refl, refl, refl, refl, refl, refl)

-- AC01 has two levels; a compatibility mapping counts where compat holds; 0307 has no row
expansion_examples : (full F false 0xAC01 ≡ Some (0x1100 ∷ 0x1161 ∷ 0x11A8 ∷ []))
    × (full F false 0x130 ≡ Some (0x49 ∷ 0x307 ∷ []))
    × (full F false 0x1C6 ≡ Some (0x1C6 ∷ []))
    × (full F true 0x1C6 ≡ Some (0x64 ∷ 0x17E ∷ []))
    × (expand F false 1 0xAC01 ≡ None)
    × (expand F false 2 0xAC01 ≡ None)
    × (expand F false 3 0xAC01 ≡ Some (0x1100 ∷ 0x1161 ∷ 0x11A8 ∷ []))
unfolding facts point_count full
expansion_examples = (refl, refl, refl, refl, refl, refl, refl)
