-- The text of a folding: each code point behind a space.
use Rattle.std.proofs.Common.{◌≡◌, ℕ, List, [], ◌∷◌, ◌++◌, append_assoc, refl, sym, ap, ◌∙◌, codes}
use Rattle.ucd_model.specs.DerivedFiles.{listed, image_text, casefold_label}
use Rattle.ucd_facts.specs.RowTexts.{spaced}
use Rattle.ucd_facts.specs.RowTextLemmas.{mapping_text-is}
use Rattle.ucd_facts.specs.declared.image.Image.TheVariants.{To}

image_is : (points : List ℕ) → image_text points ≡ codes " ;" ++ spaced points
image_is [] = refl
image_is (c ∷ cs) = ap (λ (xs : List ℕ). codes " ; " ++ xs) (mapping_text-is c cs)

pub casefold_is : (name points : List ℕ) → casefold_label name (To points) ≡ listed (name ++ codes " ;" ++ spaced points)
casefold_is name points = ap (λ (xs : List ℕ). listed (name ++ xs)) (image_is points) ∙ sym (ap listed (append_assoc name (codes " ;") (spaced points)))
