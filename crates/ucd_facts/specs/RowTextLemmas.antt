-- Lemmas of the texts of rows.
-- mapping_text-is c cs         the text of a mapping is its first code point, and the others, each with a space before it
use Rattle.std.proofs.Common.{◌≡◌, ℕ, List, [], ◌∷◌, ◌++◌, map, sym, ap, append-nil}
use Rattle.std.specs.List.{join_with_byte}
use Rattle.ucd_points.specs.HexText.{hex_text}
use Rattle.ucd_facts.specs.RowTexts.{mapping_text, spaced}

joined_are : (c : ℕ) (cs : List ℕ) → join_with_byte 32 (hex_text c ∷ map hex_text cs) ≡ hex_text c ++ spaced cs
joined_are c [] = sym (append-nil (hex_text c))
joined_are c (d ∷ ds) = ap (λ (xs : List ℕ). hex_text c ++ 32 ∷ xs) (joined_are d ds)

pub mapping_text-is : (c : ℕ) (cs : List ℕ) → mapping_text (c ∷ cs) ≡ hex_text c ++ spaced cs
unfolding mapping_text
mapping_text-is c cs = joined_are c cs
