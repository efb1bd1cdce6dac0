-- The rules of a valid release over a few points.
-- mapped k points c   the facts of c, which has a row, the kind k and this decomposition mapping
-- sample              1 maps to 2, which has no row; 3 maps to 4 and 4 to 3; 5 maps by a compatibility mapping to 64 times 6,
--                     and 7 to 64 times 6 and to 6 once more; 6 has no mapping; 8 folds to 6 and 2, of which 2 has no row, and its
--                     other case mappings are 8 itself
use Rattle.std.proofs.Common.{◌≡◌, ℕ, true, false, List, [], ◌∷◌, get_or, refl, replicate}
use Rattle.ucd_facts.specs.Expansion.{full}
use Rattle.ucd_facts.specs.Facts.{Facts, unassigned}
use Rattle.ucd_facts.specs.declared.decomposition.Kind.{Kind}
use Rattle.ucd_facts.specs.declared.decomposition.Kind.TheVariants.{Plain, Canonical, Compat}
use Rattle.ucd_facts.specs.declared.image.Image.TheVariants.{To}
use Rattle.ucd_model.specs.Validity.{lacks_row, lacks_a_row, is_endless, is_too_long}
use Rattle.ucd_facts.specs.declared.decomposition.Tag.TheVariants.{Compat as CompatTag}

abbrev mapped : Kind → List ℕ → ℕ → Facts
mapped kind points c = record (unassigned c) { assigned = true; kind = kind; mapping = points }

abbrev sample : ℕ → Facts
sample c = get_or (
    unassigned 0 ∷ mapped Canonical (2 ∷ []) 1 ∷ unassigned 2 ∷ mapped Canonical (4 ∷ []) 3 ∷ mapped Canonical (3 ∷ []) 4
    ∷ mapped (Compat CompatTag) (replicate 64 6) 5 ∷ mapped Plain [] 6 ∷ mapped (Compat CompatTag) (6 ∷ replicate 64 6) 7
    ∷ record (mapped Plain [] 8) { fold = To (6 ∷ 2 ∷ []) } ∷ []) c (unassigned c)

-- a member without a row; none; the point alone is not looked at, and in a longer mapping it is
row_examples : (lacks_a_row sample 1 ≡ true) × (lacks_a_row sample 3 ≡ false) × (lacks_a_row sample 5 ≡ false)
    × (lacks_a_row sample 2 ≡ false) × (lacks_row sample 2 (2 ∷ []) ≡ false) × (lacks_row sample 2 (2 ∷ 2 ∷ []) ≡ true) × (lacks_a_row sample 8 ≡ true)
row_examples = (refl, refl, refl, refl, refl, refl, refl)

-- mappings that go round; 64 points, and one more, where compatibility mappings count
expansion_examples : (is_endless sample 3 ≡ true) × (is_endless sample 5 ≡ false) × (is_too_long sample 3 ≡ false)
    × (is_too_long sample 5 ≡ false) × (is_too_long sample 7 ≡ true) × (is_endless sample 7 ≡ false)
unfolding full
expansion_examples = (refl, refl, refl, refl, refl, refl)
