-- What is asked of small releases, worked by hand after UAX #15 and UAX #44.
-- class    the classes of 0301 and 0307, above (230), of 0323, below (220), of 0327, attached below (202); every other point has
--          class 0
-- pair     00E7 is 0063 0327, 1E09 is 00E7 0301, 1E0C is 0044 0323, AC00 is 1100 1161, AC01 is AC00 11A8
-- small    the facts of a letter 0061, of a mark 0300 of class 230, and of FB00, whose compatibility mapping is 0061 0300; every
--          other point is unassigned
use Rattle.std.proofs.Common.{◌≡◌, ℕ, true, false, [], ◌∷◌, Option, Some, None, ◌==◌, ◌&&◌, if◌then◌else◌, refl}
use Rattle.ucd_model.specs.CanonicalOrder.{class_of}
use Rattle.ucd_facts.specs.Composites.{pair_of}
use Rattle.ucd_facts.specs.Facts.{Facts, unassigned}
use Rattle.ucd_facts.specs.declared.decomposition.Kind.TheVariants.{Compat}
use Rattle.ucd_facts.specs.declared.category.Category.TheVariants.{Ll, Lo, Mn}
use Rattle.ucd_facts.specs.declared.decomposition.Tag.TheVariants.{Compat as CompatTag}
use Rattle.ucd_facts.specs.declared.query.Query.TheVariants.{Row, Pair, Second}
use Rattle.ucd_facts.specs.Answers.{is_asked}
use Rattle.query_laws.specs.Questions.{tree, whole_tree, tries, facts_ask, pair_queries}

abbrev class : ℕ → ℕ
class c = if c == 0x301 then 230 else if c == 0x307 then 230 else if c == 0x323 then 220 else if c == 0x327 then 202 else 0

abbrev joins : ℕ → ℕ → ℕ → ℕ → ℕ → Option ℕ → Option ℕ
joins a b q s y other = if (a == s) && (b == y) then Some q else other

abbrev pair : ℕ → ℕ → Option ℕ
pair s y = joins 0x63 0x327 0xE7 s y (joins 0xE7 0x301 0x1E09 s y (joins 0x44 0x323 0x1E0C s y (joins 0x1100 0x1161 0xAC00 s y (joins 0xAC00 0x11A8 0xAC01 s y None))))

-- a pair without a composite is tried, and listed, as one with a composite is; a blocked one is not tried
tries_examples : (tries class pair (0x61 ∷ 0x300 ∷ []) ≡ Pair 0x61 0x300 ∷ [])
    × (tries class pair (0x66 ∷ 0x66 ∷ []) ≡ Pair 0x66 0x66 ∷ [])
    × (tries class pair (0x63 ∷ 0x327 ∷ 0x301 ∷ []) ≡ Pair 0x63 0x327 ∷ Pair 0xE7 0x301 ∷ [])
    × (tries class pair (0x44 ∷ 0x323 ∷ 0x307 ∷ []) ≡ Pair 0x44 0x323 ∷ Pair 0x1E0C 0x307 ∷ [])
    × (tries class pair (0xE7 ∷ 0x307 ∷ 0x301 ∷ []) ≡ Pair 0xE7 0x307 ∷ [])
    × (tries class pair (0x1100 ∷ 0x1161 ∷ 0x11A8 ∷ []) ≡ Pair 0x1100 0x1161 ∷ Pair 0xAC00 0x11A8 ∷ [])
    × (tries class pair (0x301 ∷ 0x327 ∷ []) ≡ [])
    × (tries class pair (0x61 ∷ []) ≡ [])
tries_examples = (refl, refl, refl, refl, refl, refl, refl, refl)

abbrev small : ℕ → Facts
small c =
    if c == 0x61 then record (unassigned c) { assigned = true; category = Ll }
    else if c == 0x300 then record (unassigned c) { assigned = true; category = Mn; class = 230 }
    else if c == 0xFB00 then record (unassigned c) { assigned = true; category = Lo; kind = Compat CompatTag; mapping = 0x61 ∷ 0x300 ∷ [] }
    else unassigned c

tree_examples : (whole_tree small true 0xFB00 ≡ 0xFB00 ∷ 0x61 ∷ 0x300 ∷ [])
    × (whole_tree small false 0xFB00 ≡ 0xFB00 ∷ [])
    × (whole_tree small true 0x61 ≡ 0x61 ∷ [])
    × (tree small true 1 0xFB00 ≡ 0xFB00 ∷ [])
unfolding whole_tree
tree_examples = (refl, refl, refl, refl)

-- FB00 asks for the composite of 0061 and 0300, which is not there as yet: so it is derived again when it comes
ligature_examples : (is_asked (facts_ask small 0xFB00) (Row 0xFB00) ≡ true)
    × (is_asked (facts_ask small 0xFB00) (Row 0x300) ≡ true)
    × (is_asked (facts_ask small 0xFB00) (Second 0xFB00) ≡ true)
    × (is_asked (facts_ask small 0xFB00) (Second 0x300) ≡ false)
    × (is_asked (facts_ask small 0xFB00) (Row 0xE0) ≡ false)
    × (tries (class_of small) (pair_of small) (0x61 ∷ 0x300 ∷ []) ≡ Pair 0x61 0x300 ∷ [])
ligature_examples = (refl, refl, refl, refl, refl, refl)

-- a composite asks for the pair of its mapping; a mapping of one member has none
pair_examples : (pair_queries (0x61 ∷ 0x300 ∷ []) ≡ Pair 0x61 0x300 ∷ [])
    × (pair_queries (0x4B ∷ []) ≡ [])
    × (pair_queries (0x66 ∷ 0x66 ∷ 0x69 ∷ []) ≡ [])
pair_examples = (refl, refl, refl)
