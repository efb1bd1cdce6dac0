-- A code point that breaks each policy, and one that keeps it.
--
-- The facts are those of code points of real releases where the policy is kept; where it is broken, one of them is changed.
use Rattle.std.proofs.Common.{◌≡◌, ℕ, true, false, ◌==◌, [], ◌∷◌, if◌then◌else◌, codes, refl, Some, None}
use Rattle.ucd_facts.specs.Expansion.{full}
use Rattle.ucd_facts.specs.Facts.{Facts, unassigned}
use Rattle.ucd_facts.specs.declared.decomposition.Kind.{Kind}
use Rattle.ucd_facts.specs.declared.decomposition.Kind.TheVariants.{Canonical, Compat}
use Rattle.ucd_facts.specs.declared.image.Image.TheVariants.{To}
use Rattle.ucd_facts.specs.declared.category.Category.{Category}
use Rattle.ucd_facts.specs.declared.category.Category.TheVariants.{Lu, Ll, Lo, Mn, Mc, Cc, Cs, Co, Po, Zs}
use Rattle.ucd_facts.specs.declared.decomposition.Tag.TheVariants as tag
use Rattle.ucd_facts.specs.declared.property.Flag.{Flag}
use Rattle.ucd_facts.specs.declared.property.Flag.TheVariants.{NoncharacterCodePoint, PatternSyntax, PatternWhiteSpace}
use Rattle.ucd_facts.specs.Sets.{flag_place}
use Rattle.stability_policies.specs.Policies.{breaks, differ}
use Rattle.stability_policies.specs.declared.policy.Policy.TheVariants.{P01, P03, P04, P05, P06, P07, P08, P09, P10, P11, P12, P13, P14, P15, P16, P18, P19, P20}

-- a code point of a category, with nothing else
abbrev of : Category → ℕ → Facts
of k c = record (unassigned c) { assigned = true; category = k }

abbrev marked : ℕ → ℕ → Facts
marked class c = record (of Mn c) { class = class }

abbrev flagged : Flag → Facts → Facts
flagged f F = record F { flag = λ g. flag_place g == flag_place f }

-- one code point with other facts
abbrev with : (ℕ → Facts) → ℕ → Facts → ℕ → Facts
with F c G d = if d == c then G else F d

-- 0041 0061 0300 0301 and 00E0, as in the Unicode Character Database without case mappings
abbrev letters : ℕ → Facts
letters = with (with (with (with unassigned 0x41 (of Lu 0x41)) 0x61 (of Ll 0x61)) 0x300 (marked 230 0x300)) 0x301 (marked 230 0x301)

-- a later release: 0041 is gone, 0300 has another class, and 00E0 is added
abbrev grave : Facts
grave = record (of Ll 0xE0) { kind = Canonical; mapping = 0x61 ∷ 0x300 ∷ [] }

abbrev later : ℕ → Facts
later = with (with (with letters 0x41 (unassigned 0x41)) 0x300 (marked 220 0x300)) 0xE0 grave

later_examples : (breaks P01 letters later 0x41 ≡ true) × (breaks P01 letters later 0x61 ≡ false)
    × (breaks P03 letters later 0x300 ≡ true) × (breaks P03 letters later 0x301 ≡ false) × (breaks P03 letters later 0x41 ≡ false)
    × (breaks P05 letters later 0xE0 ≡ true) × (breaks P05 letters later 0x61 ≡ false)
    × (breaks P06 letters later 0x41 ≡ true) × (breaks P06 letters later 0x61 ≡ false) × (breaks P06 letters later 0xE0 ≡ false)
    × (breaks P07 letters later 0x41 ≡ true) × (breaks P07 letters later 0x300 ≡ false)
    × (breaks P08 letters later 0x41 ≡ true) × (breaks P08 letters later 0x61 ≡ false)
    × (breaks P09 letters later 0x41 ≡ true) × (breaks P09 letters later 0x61 ≡ false)
    × (breaks P10 letters later 0x41 ≡ false) × (breaks P10 letters later 0x61 ≡ false)
unfolding full
later_examples = (refl, refl, refl, refl, refl, refl, refl, refl, refl, refl, refl, refl, refl, refl, refl, refl, refl, refl)

-- a new composite over a code point that is new too breaks nothing; a composite that is excluded later does
abbrev excluded : ℕ → Facts
excluded = with later 0xE0 (record grave { excluded = true })

composite_examples : (breaks P05 unassigned later 0xE0 ≡ false) × (breaks P05 later excluded 0xE0 ≡ true) × (breaks P05 later later 0xE0 ≡ false)
composite_examples = (refl, refl, refl)

-- another mapping, another sort of mapping, and another tag alone
abbrev acute : ℕ → Facts
acute = with later 0xE0 (record grave { mapping = 0x61 ∷ 0x301 ∷ [] })

abbrev square : ℕ → Facts
square = with later 0xE0 (record grave { kind = Compat tag.Square })

abbrev circle : ℕ → Facts
circle = with later 0xE0 (record grave { kind = Compat tag.Circle })

mapping_examples : (breaks P04 later acute 0xE0 ≡ true) × (breaks P04 later square 0xE0 ≡ true) × (breaks P04 square circle 0xE0 ≡ false) × (breaks P04 letters later 0xE0 ≡ false)
mapping_examples = (refl, refl, refl, refl)

-- 0041 that folds to 0061, and to itself
abbrev folding : ℕ → Facts
folding = with letters 0x41 (record (of Lu 0x41) { fold = To (0x61 ∷ []) })

caseless_examples : (breaks P10 folding letters 0x41 ≡ true) × (breaks P10 letters folding 0x41 ≡ true) × (breaks P10 folding folding 0x41 ≡ false) × (breaks P10 unassigned folding 0x41 ≡ false)
unfolding full
caseless_examples = (refl, refl, refl, refl)

-- the pair of 0041 and 0061, and 0041 alone with its lower case mapping
abbrev half : ℕ → Facts
half = with letters 0x41 (record (of Lu 0x41) { simple_lower = 0x61 })

abbrev paired : ℕ → Facts
paired = with half 0x61 (record (of Ll 0x61) { simple_upper = 0x41 })

pair_examples : (breaks P11 paired half 0x41 ≡ true) × (breaks P11 paired letters 0x41 ≡ true) × (breaks P11 paired paired 0x41 ≡ false) × (breaks P11 half letters 0x41 ≡ false)
    × (breaks P12 half paired 0x41 ≡ true) × (breaks P12 letters paired 0x41 ≡ true) × (breaks P12 later paired 0x41 ≡ false) × (breaks P12 paired paired 0x41 ≡ false)
pair_examples = (refl, refl, refl, refl, refl, refl, refl, refl)

-- 0085 is a control, D800 a surrogate, E000 for private use, FFFE a noncharacter, 0021 and 0020 of patterns
category_examples : (breaks P13 (of Cc) (of Lo) 0x85 ≡ true) × (breaks P13 (of Lo) (of Cc) 0x85 ≡ true) × (breaks P13 (of Cc) (of Cc) 0x85 ≡ false) × (breaks P13 unassigned (of Lo) 0x85 ≡ false)
    × (breaks P14 (of Cs) unassigned 0xD800 ≡ true) × (breaks P14 (of Lo) (of Co) 0xE000 ≡ true) × (breaks P14 (of Cs) (of Co) 0xE000 ≡ true) × (breaks P14 (of Co) (of Co) 0xE000 ≡ false)
category_examples = (refl, refl, refl, refl, refl, refl, refl, refl)

abbrev has : Flag → Category → ℕ → Facts
has f k c = flagged f (of k c)

flag_examples : (breaks P15 (λ c. flagged NoncharacterCodePoint (unassigned c)) unassigned 0xFFFE ≡ true) × (breaks P15 unassigned unassigned 0xFFFE ≡ false)
    × (breaks P16 (has PatternSyntax Po) (of Po) 0x21 ≡ true) × (breaks P16 (of Zs) (has PatternWhiteSpace Zs) 0x20 ≡ true) × (breaks P16 (has PatternSyntax Po) (has PatternWhiteSpace Po) 0x21 ≡ true) × (breaks P16 (has PatternSyntax Po) (has PatternSyntax Po) 0x21 ≡ false)
flag_examples = (refl, refl, refl, refl, refl, refl)

-- the second member has a canonical mapping, or a compatibility mapping; a mapping out of order, in order; a letter with a class
abbrev twice : Kind → ℕ → Facts
twice k = with later 0x300 (record (marked 230 0x300) { kind = k; mapping = 0x301 ∷ [] })

abbrev listed : ℕ → ℕ → ℕ → Facts
listed a b = with (with (with later 0x344 (record (marked 230 0x344) { kind = Canonical; mapping = a ∷ b ∷ [] })) 0x300 (marked 230 0x300)) 0x316 (marked 220 0x316)

new_examples : (breaks P18 letters (twice Canonical) 0xE0 ≡ true) × (breaks P18 letters (twice (Compat tag.Compat)) 0xE0 ≡ false) × (breaks P18 (twice Canonical) later 0xE0 ≡ false)
    × (breaks P19 letters (listed 0x300 0x316) 0x344 ≡ true) × (breaks P19 letters (listed 0x316 0x300) 0x344 ≡ false) × (breaks P19 (listed 0x300 0x316) letters 0x344 ≡ false)
    × (breaks P20 letters (λ c. record (of Ll c) { class = 230 }) 0x61 ≡ true) × (breaks P20 letters (λ c. record (of Mc c) { class = 9 }) 0x61 ≡ false) × (breaks P20 letters later 0x61 ≡ false)
new_examples = (refl, refl, refl, refl, refl, refl, refl, refl, refl)

name_examples : (differ (Some (codes "LATIN SMALL LETTER GHA")) (Some (codes "LATIN SMALL LETTER OI")) ≡ true) × (differ (Some (codes "SPACE")) (Some (codes "SPACE")) ≡ false)
    × (differ (Some (codes "SPACE")) None ≡ false) × (differ None (Some (codes "SPACE")) ≡ false)
name_examples = (refl, refl, refl, refl)
