-- Texts and the names that stand in them: when they are the same.
use Rattle.std.proofs.Common.{◌≡◌, ℕ, true, ◌&&◌, List, [], ◌∷◌, refl, sym, ap, ◌∙◌, Ordering, bytes_eq}
use Rattle.std.specs.Ordering.{ordering_then, is_eq}
use Rattle.std.specs.List.{join_with_byte}
use Rattle.std.proofs.lemmas.List.Splits.{join_with_byte-slice_split}
use Rattle.std.proofs.lemmas.Slice.Eq.{bytes_eq-Decides, slice_eq-Decides}
use Rattle.std.specs.Cmp.{both_ways, tied_then}
use Rattle.source_rows.specs.Keys.{same_texts}
use Rattle.release_rows.specs.Places.{names_of}

-- what is equal in two steps is equal in both
pub is_eq-then : (a b : Ordering) → is_eq (ordering_then a b) ≡ (is_eq a && is_eq b)
is_eq-then a b = sym (tied_then a b)

pub texts_same : (a b : List (List ℕ)) → same_texts a b ≡ true → a ≡ b
texts_same a b = (slice_eq-Decides bytes_eq-Decides a b (same_texts a b) refl).0

-- texts are the same as themselves
pub texts_itself : (a : List (List ℕ)) → same_texts a a ≡ true
texts_itself a = (slice_eq-Decides bytes_eq-Decides a a (same_texts a a) refl).1 refl

-- the names of a text, put together again, are the text
joined_again : (a : List ℕ) → join_with_byte 59 (names_of a) ≡ a
joined_again [] = refl
joined_again (b ∷ bs) = join_with_byte-slice_split 59 (b ∷ bs)

pub names_tell_text : (a b : List ℕ) → names_of a ≡ names_of b → a ≡ b
names_tell_text a b h = sym (joined_again a) ∙ ap (λ (ns : List (List ℕ)). join_with_byte 59 ns) h ∙ joined_again b

-- texts are the same where their names are
pub texts_tell_names : (a b : List ℕ) → bytes_eq a b ≡ same_texts (names_of a) (names_of b)
texts_tell_names a b = both_ways (bytes_eq a b) (same_texts (names_of a) (names_of b))
    (λ h. ap (λ (x : List ℕ). same_texts (names_of a) (names_of x)) (sym ((bytes_eq-Decides a b).0 h)) ∙ texts_itself (names_of a))
    (λ h. (bytes_eq-Decides a b).1 (names_tell_text a b (texts_same (names_of a) (names_of b) h)))
