-- Forms that are their own forms.
--
-- F is the facts of each code point.
-- composed_same   where no member of a composed list has a canonical mapping, nothing was composed
-- form_twice      where no member of the NFKC of a list has a canonical mapping, that NFKC is its own
use Rattle.std.proofs.Common.{◌≡◌, ℕ, Bool, true, false, cond, ◌||◌, List, [], ◌∷◌, ◌++◌, Option, Some, None, Ok, refl, sym, ap, ◌∙◌, subst, append_assoc, ◌⊎◌, inl, inr, append-nil}
use Rattle.std.specs.List.{list_any}
use Rattle.std.proofs.lemmas.List.Folds.{list_any-append}
use Rattle.std.proofs.Math.Bool.{or-true}
use Rattle.ucd_model.specs.CanonicalOrder.{class_of}
use Rattle.ucd_facts.specs.Composites.{is_canonical, pair_of}
use Rattle.ucd_model.specs.Composition.{Split, compose, compose_onto, composed_with, is_open, last_starter, where_open, with_composite, with_point}
use Rattle.ucd_facts.specs.Facts.{Facts}
use Rattle.ucd_model.specs.Forms.{composed, nfkc, nfkd}
use Rattle.normalisation.specs.FormProofs.{nfkd_twice, composed_ok}
use Rattle.normalisation.specs.PairLemmas.{pair_joins}
use Rattle.fold_rounds.specs.Steps.{has_composite}

-- ---- what is composed so far is what was read, or it has a composite

module _ (F : ℕ → Facts) where
  abbrev canonical : ℕ → Bool
  canonical x = is_canonical (F x).kind

  abbrev IsRead : List ℕ → List ℕ → Type 0
  IsRead done read = (done ≡ read) ⊎ (has_composite F done ≡ true)

  front : (xs ys : List ℕ) → list_any canonical xs ≡ true → list_any canonical (xs ++ ys) ≡ true
  front xs ys e = list_any-append canonical xs ys ∙ ap (λ b. b || list_any canonical ys) e

  behind : (xs ys : List ℕ) → list_any canonical ys ≡ true → list_any canonical (xs ++ ys) ≡ true
  behind xs ys e = list_any-append canonical xs ys ∙ ap (λ b. list_any canonical xs || b) e ∙ or-true (list_any canonical xs)

  pushed : (done read : List ℕ) (y : ℕ) → IsRead done read → IsRead (done ++ y ∷ []) (read ++ y ∷ [])
  pushed done read y (inl same) = inl (ap (λ (zs : List ℕ). zs ++ y ∷ []) same)
  pushed done read y (inr has) = inr (front done (y ∷ []) has)

  joined : (done read : List ℕ) (y : ℕ) (cut : Split) (o : Option ℕ) → pair_of F cut.starter y ≡ o → IsRead done read → IsRead (with_composite done y cut o) (read ++ y ∷ [])
  joined done read y cut (Some q) e is = inr (behind cut.before (q ∷ cut.after) (ap (λ b. b || list_any canonical cut.after) (pair_joins F cut.starter y q e).canonical))
  joined done read y cut None e is = pushed done read y is

  opened : (done read : List ℕ) (y : ℕ) (cut : Split) (t : Bool) → IsRead done read → IsRead (with_point (pair_of F) done y (cond t (Some cut) None)) (read ++ y ∷ [])
  opened done read y cut true is = joined done read y cut (pair_of F cut.starter y) refl is
  opened done read y cut false is = pushed done read y is

  reached : (done read : List ℕ) (y : ℕ) (r : Option Split) → IsRead done read → IsRead (with_point (pair_of F) done y (where_open (class_of F) y r)) (read ++ y ∷ [])
  reached done read y (Some cut) is = opened done read y cut (is_open (class_of F) y cut.after) is
  reached done read y None is = pushed done read y is

  onto : (done read rest : List ℕ) → IsRead done read → IsRead (compose_onto (class_of F) (pair_of F) done rest) (read ++ rest)
  onto done read [] is = subst (IsRead done) (sym (append-nil read)) is
  onto done read (y ∷ rest) is =
      let next : IsRead (composed_with (class_of F) (pair_of F) done y) (read ++ y ∷ []) = reached done read y (last_starter (class_of F) done) is in
      subst (IsRead (compose_onto (class_of F) (pair_of F) (composed_with (class_of F) (pair_of F) done y) rest)) (append_assoc read (y ∷ []) rest)
      (onto (composed_with (class_of F) (pair_of F) done y) (read ++ y ∷ []) rest next)

  read_all : (done read : List ℕ) → has_composite F done ≡ false → IsRead done read → done ≡ read
  read_all done read none (inl same) = same
  read_all done read none (inr has) = cc

pub composed_same : (F : ℕ → Facts) (t : List ℕ) → has_composite F (compose (class_of F) (pair_of F) t) ≡ false → compose (class_of F) (pair_of F) t ≡ t
composed_same F t none = read_all F (compose (class_of F) (pair_of F) t) t none (onto F [] [] t (inl refl))

-- ---- the form of a form

pub form_twice : (F : ℕ → Facts) (s form : List ℕ) → nfkc F s ≡ Ok form → has_composite F form ≡ false → nfkc F form ≡ Ok form
form_twice F s form is none =
    let parts = composed_ok F (nfkd F s) form is in
    let t : List ℕ = parts.0 in
    let same : t ≡ form = sym (composed_same F t (ap (has_composite F) parts.2 ∙ none)) ∙ parts.2 in
    ap (nfkc F) (sym same) ∙ ap (composed F) (nfkd_twice F s t parts.1) ∙ ap (λ zs. Ok zs) parts.2
