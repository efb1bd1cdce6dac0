-- What the definitions give at small examples, worked out by hand.
-- sample   the code points of three releases: 1 and 2; then 2 and 3; then 1, 3 and 5
use Rattle.std.proofs.Common.{◌≡◌, ℕ, Bool, ◌==◌, List, [], ◌∷◌, Some, None, refl, codes, ◌||◌}
use Rattle.std.specs.Fmt.{digits}
use Rattle.ucd_points.specs.HexText.{hex_text, span_text}
use Rattle.ucd_model.specs.DerivedText.{section_text}
use Rattle.age_chain.specs.Ages.{age_label, age_of, first_with}

abbrev sample : List (ℕ → Bool)
sample = (λ c. c == 1 || c == 2) ∷ (λ c. c == 2 || c == 3) ∷ (λ c. c == 1 || c == 3 || c == 5) ∷ []

-- 1 is removed by the second release, and comes back: it keeps its age
age_examples : (first_with sample 1 ≡ Some 1) × (first_with sample 2 ≡ Some 1) × (first_with sample 3 ≡ Some 2) × (first_with sample 4 ≡ None)
    × (first_with sample 5 ≡ Some 3) × (first_with [] 1 ≡ None)
age_examples = (refl, refl, refl, refl, refl, refl)

table_examples : (age_of 0 ≡ None) × (age_of 1 ≡ Some 1) × (age_of 255 ≡ Some 255)
table_examples = (refl, refl, refl)

label_examples : (age_label None ≡ None) × (age_label (Some 2) ≡ Some (codes " ; 2")) × (age_label (Some 16) ≡ Some (codes " ; 16"))
unfolding digits
label_examples = (refl, refl, refl)

text_example : section_text (codes "Age") 6 (λ c. age_label (first_with sample c)) ≡ codes "# Age\n0001..0002 ; 1\n0003 ; 2\n0005 ; 3\n# total 4\n\n"
unfolding section_text span_text hex_text digits
text_example = refl
