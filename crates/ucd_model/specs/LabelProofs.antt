-- Proofs of the laws of labels. No word but that of the law is defined here for others.
-- labels_tell_values   the law of the same name
-- mapping_text-injective   two mappings of one code point or more with one text are one
use Rattle.std.proofs.Common.{◌≡◌, ◌≢◌, ℕ, ◌≤◌, Bool, true, false, ◌==◌, List, [], ◌∷◌, ◌++◌, map, Some, None, refl, sym, ap, ◌∙◌, arith, inl, inr, codes, decimal, bytes_eq}
use Rattle.std.specs.List.{All, slice_split, join_with_byte}
use Rattle.std.proofs.lemmas.Bool.{true≢false, ne_eqb, cases_eq}
use Rattle.std.proofs.lemmas.Fmt.{decimal_injective}
use Rattle.std.proofs.lemmas.List.{append_cancel_left}
use Rattle.std.proofs.lemmas.List.Elements.{All-weaker, All-head, All-tail}
use Rattle.std.proofs.lemmas.List.Splits.{slice_split_none, slice_split_at}
use Rattle.std.proofs.lemmas.Option.{same_Some}
use Rattle.ucd_points.specs.Fields.{point_of}
use Rattle.ucd_model.specs.Labels.{Label}
use Rattle.ucd_points.specs.HexText.{hex_text}
use Rattle.ucd_model.specs.DerivedFiles.{listed, binary_label, category_label, class_label, kind_label, quick_label, image_text, casefold_label}
use Rattle.ucd_facts.specs.Enumerations.{categories, kinds, place_of_kind}
use Rattle.ucd_points.specs.HexTextLaws.{IsUpperHex}
use Rattle.ucd_points.specs.HexTextProofs.{hex_text_is_upper_case, hex_text_spells_its_point}
use Rattle.ucd_facts.specs.RowTexts.{mapping_text}
use Rattle.ucd_facts.specs.RowValues.{IsPoint}
use Rattle.ucd_facts.specs.Predicates.{category_place}
use Rattle.ucd_facts.specs.EnumerationProofs.{enumerates_categories, enumerates_kinds, text-injective}
use Rattle.ucd_model.specs.LabelLaws.{HasPoints, LabelsTellValues}
use Rattle.ucd_facts.specs.declared.form.Quick.{Quick}
use Rattle.ucd_facts.specs.declared.form.Quick.TheVariants.{Yes, No as NoValue, Maybe}
use Rattle.ucd_facts.specs.declared.image.Image.{Image}
use Rattle.ucd_facts.specs.declared.image.Image.TheVariants.{Same, To}
use Rattle.ucd_facts.specs.declared.row.FoldStatus.TheVariants as status

-- ---- labels

abbrev text_of : Label → List ℕ
text_of None = []
text_of (Some text) = text

class_zero : (n : ℕ) → n ≢ 0 → class_label n ≡ listed (decimal n)
class_zero n other = rw (ne_eqb n 0 other) refl

class_told : (m n : ℕ) → m ≤ 254 → n ≤ 254 → class_label m ≡ class_label n → m ≡ n
class_told m n small below e =
    elim (cases_eq m 0) [
      | inl zero ↦ elim (cases_eq n 0) [
        | inl none ↦ zero ∙ sym none
        | inr other ↦ let wrong : None ≡ listed (decimal n) = sym (ap class_label zero) ∙ e ∙ class_zero n other in cc
      ]
      | inr some ↦ elim (cases_eq n 0) [
        | inl none ↦ let wrong : listed (decimal m) ≡ None = sym (class_zero m some) ∙ e ∙ ap class_label none in cc
        | inr other ↦ decimal_injective m n (omega (arith, small)) (omega (arith, below))
            (append_cancel_left (codes " ; ") (decimal m) (decimal n) (same_Some (codes " ; " ++ decimal m) (codes " ; " ++ decimal n) (sym (class_zero m some) ∙ e ∙ class_zero n other)))
      ]
    ]

no_is_maybe : (name : List ℕ) → quick_label name NoValue ≡ quick_label name Maybe → ⊥
no_is_maybe name e =
    let behind = append_cancel_left (codes " ; ") (name ++ codes " ; N") (name ++ codes " ; M") (same_Some (codes " ; " ++ name ++ codes " ; N") (codes " ; " ++ name ++ codes " ; M") e) in
    let letters = append_cancel_left name (codes " ; N") (codes " ; M") behind in
    true≢false (ap (bytes_eq (codes " ; N")) letters)

quick_told : (name : List ℕ) (a b : Quick) → quick_label name a ≡ quick_label name b → a ≡ b
quick_told name Yes Yes e = refl
quick_told name Yes NoValue e = cc
quick_told name Yes Maybe e = cc
quick_told name NoValue Yes e = cc
quick_told name NoValue NoValue e = refl
quick_told name NoValue Maybe e = absurd (no_is_maybe name e)
quick_told name Maybe Yes e = cc
quick_told name Maybe NoValue e = absurd (no_is_maybe name (sym e))
quick_told name Maybe Maybe e = refl

binary_told : (name : List ℕ) (a b : Bool) → binary_label name a ≡ binary_label name b → a ≡ b
binary_told name true true e = refl
binary_told name true false e = cc
binary_told name false true e = cc
binary_told name false false e = refl

-- ---- images

upper_no_space : (b : ℕ) → IsUpperHex b → (b == 32) ≡ false
upper_no_space b (inl digit) = ne_eqb b 32 (λ e. absurd (omega (arith, e, digit.0)))
upper_no_space b (inr letter) = ne_eqb b 32 (λ e. absurd (omega (arith, e, letter.0)))

no_space : (c : ℕ) → All (λ b. (b == 32) ≡ false) (hex_text c)
no_space c = All-weaker IsUpperHex (λ b. (b == 32) ≡ false) upper_no_space (hex_text c) (hex_text_is_upper_case c)

split_points : (c : ℕ) (cs : List ℕ) → slice_split (λ b. b == 32) (join_with_byte 32 (map hex_text (c ∷ cs))) ≡ map hex_text (c ∷ cs)
split_points c [] = slice_split_none (λ b. b == 32) (hex_text c) (no_space c)
split_points c (d ∷ ds) = slice_split_at (λ b. b == 32) (hex_text c) 32 (join_with_byte 32 (map hex_text (d ∷ ds))) (no_space c) refl ∙ ap (λ (xs : List (List ℕ)). hex_text c ∷ xs) (split_points d ds)

same_head : (x y : List ℕ) (xs ys : List (List ℕ)) → x ∷ xs ≡ y ∷ ys → (x ≡ y) × (xs ≡ ys)
same_head x y xs ys e = (cc, cc)

same_points : (cs ds : List ℕ) → All IsPoint cs → All IsPoint ds → map hex_text cs ≡ map hex_text ds → cs ≡ ds
same_points [] [] p q e = refl
same_points [] (d ∷ ds) p q e = cc
same_points (c ∷ cs) [] p q e = cc
same_points (c ∷ cs) (d ∷ ds) p q e =
    let parts = same_head (hex_text c) (hex_text d) (map hex_text cs) (map hex_text ds) e in
    let first : c ≡ d = same_Some c d (sym (hex_text_spells_its_point c (All-head IsPoint c cs p)) ∙ ap point_of parts.0 ∙ hex_text_spells_its_point d (All-head IsPoint d ds q)) in
    let rest : cs ≡ ds = same_points cs ds (All-tail IsPoint c cs p) (All-tail IsPoint d ds q) parts.1 in
    cc

pub mapping_text-injective : (c d : ℕ) (cs ds : List ℕ) → All IsPoint (c ∷ cs) → All IsPoint (d ∷ ds) → mapping_text (c ∷ cs) ≡ mapping_text (d ∷ ds) → c ∷ cs ≡ d ∷ ds
unfolding mapping_text
mapping_text-injective c d cs ds p q e =
    same_points (c ∷ cs) (d ∷ ds) p q (sym (split_points c cs) ∙ ap (slice_split (λ b. b == 32)) e ∙ split_points d ds)

-- the value of a label of a property
value_told : (name value other : List ℕ) → ◌≡◌ {A = Label} (listed (name ++ value)) (listed (name ++ other)) → value ≡ other
value_told name value other e =
    append_cancel_left name value other
    (append_cancel_left (codes " ; ") (name ++ value) (name ++ other) (same_Some (codes " ; " ++ name ++ value) (codes " ; " ++ name ++ other) e))

no_points : (d : ℕ) (ds : List ℕ) → image_text [] ≡ image_text (d ∷ ds) → ⊥
no_points d ds e =
    let behind = append_cancel_left (codes " ;") [] (32 ∷ mapping_text (d ∷ ds)) e in
    cc

texts_told : (cs ds : List ℕ) → All IsPoint cs → All IsPoint ds → image_text cs ≡ image_text ds → cs ≡ ds
texts_told [] [] p q e = refl
texts_told [] (d ∷ ds) p q e = absurd (no_points d ds e)
texts_told (c ∷ cs) [] p q e = absurd (no_points c cs (sym e))
texts_told (c ∷ cs) (d ∷ ds) p q e = mapping_text-injective c d cs ds p q (append_cancel_left (codes " ; ") (mapping_text (c ∷ cs)) (mapping_text (d ∷ ds)) e)

image_told : (name : List ℕ) (i j : Image) → HasPoints i → HasPoints j → casefold_label name i ≡ casefold_label name j → i ≡ j
image_told name Same Same p q e = refl
image_told name Same (To ds) p q e = cc
image_told name (To cs) Same p q e = cc
image_told name (To cs) (To ds) p q e = ap (λ (xs : List ℕ). To xs) (texts_told cs ds p q (value_told name (image_text cs) (image_text ds) e))

pub labels_tell_values : LabelsTellValues
labels_tell_values = record {
  category = λ a b e. text-injective categories category_place (λ k. text_of (category_label k)) enumerates_categories refl a b (ap text_of e);
  class = class_told;
  kind = λ a b e. text-injective kinds place_of_kind (λ k. text_of (kind_label k)) enumerates_kinds refl a b (ap text_of e);
  quick = quick_told;
  image = image_told;
  binary = binary_told;
}
