-- Lists that both foldings fold alike.
--
-- F is the facts of each code point, and `folding` the full or the simple folding.
-- folded_covered   where the members of a list are alike, each folding gives the same folded list
-- round_covered    where those of its NFKC are, each folding gives the same list after a round
-- covered_both     what two flags together cover, each of them covers
use Rattle.std.proofs.Common.{◌≡◌, ℕ, Bool, true, ◌&&◌, List, [], ◌∷◌, ◌++◌, Some, refl, sym, ap, ◌∙◌, inl, inr, option_and_then}
use Rattle.std.proofs.lemmas.Bool.{eqb-true, and_parts}
use Rattle.std.proofs.lemmas.Slice.Eq.{bytes_eq-Decides}
use Rattle.ucd_model.specs.Casing.{fold, folded}
use Rattle.ucd_facts.specs.Facts.{Facts, image_points}
use Rattle.ucd_facts.specs.declared.image.Image.{Image}
use Rattle.ucd_facts.specs.declared.image.Image.TheVariants.{Same, To}
use Rattle.ucd_model.specs.FoldRounds.{drop_ignorable, short, short_nfkc, short_fold, round}
use Rattle.ucd_facts.specs.declared.folding.Folding.{Folding}
use Rattle.ucd_facts.specs.declared.folding.Folding.TheVariants.{Full, Simple}
use Rattle.fold_rounds.specs.Steps.{folded_form, is_one, is_alike, are_alike, IsCovered}

one_image : (c : ℕ) (i : Image) (x : ℕ) → is_one c i x ≡ true → image_points c i ≡ x ∷ []
one_image c Same x e = ap (λ y. y ∷ []) (sym (eqb-true x c e))
one_image c (To points) x e = (bytes_eq-Decides points (x ∷ [])).0 e

simply_folded : (folding : Folding) (F : ℕ → Facts) (s : List ℕ) → are_alike F s ≡ true → folded folding F s ≡ folded Simple F s
simply_folded Simple F s e = refl
simply_folded Full F [] e = refl
simply_folded Full F (x ∷ s) e =
    let parts = and_parts (is_alike x (F x)) (are_alike F s) e in
    ap (λ xs. xs ++ fold F s) (one_image x (F x).fold (F x).simple_fold parts.0) ∙ ap (λ xs. (F x).simple_fold ∷ xs) (simply_folded Full F s parts.1)

pub folded_covered : (folding k : Folding) (F : ℕ → Facts) (s : List ℕ) → IsCovered folding (are_alike F s) k → folded k F s ≡ folded folding F s
folded_covered folding k F s covered = elim covered [
  | inl same ↦ ap (λ (f : Folding). folded f F s) same
  | inr alike ↦ simply_folded k F s alike ∙ sym (simply_folded folding F s alike)
]

pub round_covered : (folding k : Folding) (F : ℕ → Facts) (s form list : List ℕ) → IsCovered folding (are_alike F form) k → short_nfkc F s ≡ Some form → folded_form folding F form ≡ Some list → round k F s ≡ Some list
round_covered folding k F s form list covered e f =
    ap (λ r. option_and_then (short_nfkc F) (option_and_then (short_fold k F) r)) e
    ∙ ap (λ xs. option_and_then (short_nfkc F) (short (drop_ignorable F xs))) (folded_covered folding k F form covered) ∙ f

pub covered_both : (folding k : Folding) (a b : Bool) → IsCovered folding (a && b) k → IsCovered folding a k × IsCovered folding b k
covered_both folding k a b covered = elim covered [
  | inl same ↦ (inl same, inl same)
  | inr e ↦ let parts = and_parts a b e in (inr parts.0, inr parts.1)
]
