-- The members of a code point's mappings, part by part.
-- simple_members G     the simple case mappings and the simple folding, of a point with the facts G
-- image_members c G    the members of the full case mappings and the full folding of the point c with the facts G
-- members_joined       the rows of the decomposition mapping, of the simple and of the full mappings, one behind the other, are
--                      those of the members of all mappings
-- images_joined        the rows of the four full mappings, one behind the other, are those of the members of these
-- rows_joined          the rows of two lists, one behind the other, are those of the lists joined
use Rattle.std.proofs.Common.{◌≡◌, ℕ, List, [], ◌∷◌, ◌++◌, refl, ap, append_assoc, append-nil, flat_map}
use Rattle.ucd_facts.specs.Facts.{Facts, image_points}
use Rattle.ucd_model.specs.Validity.{mappings}
use Rattle.ucd_facts.specs.declared.query.Query.{Query}
use Rattle.ucd_facts.specs.declared.query.Query.TheVariants.{Row}
use Rattle.query_laws.specs.Questions.{row_queries}

abbrev pub simple_members : Facts → List ℕ
simple_members G = G.simple_upper ∷ G.simple_lower ∷ G.simple_title ∷ G.simple_fold ∷ []

abbrev pub image_members : ℕ → Facts → List ℕ
image_members c G = flat_map (λ m. m) (image_points c G.upper ∷ image_points c G.lower ∷ image_points c G.title ∷ image_points c G.fold ∷ [])

pub rows_joined : (xs ys : List ℕ) → row_queries (xs ++ ys) ≡ row_queries xs ++ row_queries ys
rows_joined [] ys = refl
rows_joined (x ∷ xs) ys = ap (λ t. Row x ∷ t) (rows_joined xs ys)

pub images_joined : (c : ℕ) (G : Facts) (old a b d e : List Query) → a ≡ old ++ row_queries (image_points c G.upper) → b ≡ a ++ row_queries (image_points c G.lower)
    → d ≡ b ++ row_queries (image_points c G.title) → e ≡ d ++ row_queries (image_points c G.fold) → e ≡ old ++ row_queries (image_members c G)
images_joined c G old a b d e p q r s = rw (s, r, q, p) (simp (rows_joined, append_assoc, append-nil))

pub members_joined : (c : ℕ) (G : Facts) (old a b d : List Query) → a ≡ old ++ row_queries G.mapping → b ≡ a ++ row_queries (simple_members G) → d ≡ b ++ row_queries (image_members c G)
    → d ≡ old ++ row_queries (flat_map (λ m. m) (mappings c G))
members_joined c G old a b d p q r = rw (r, q, p) (simp (rows_joined, append_assoc))
