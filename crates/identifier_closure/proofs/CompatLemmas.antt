-- Expansions without compatibility mappings.
use Rattle.std.proofs.Common.{◌≡◌, ℕ, zero, suc, Bool, true, false, List, [], ◌∷◌, ◌++◌, Option, Some, Ok, if◌then◌else◌, refl, sym, ap, ◌∙◌, subst}
use Rattle.std.specs.List.{AllByRecursion as Each, list_any}
use Rattle.std.proofs.lemmas.Option.{same_Some, none-some}
use Rattle.std.proofs.lemmas.Bool.{or_parts}
use Rattle.ucd_facts.specs.FactsLemmas.{judged_some}
use Rattle.ucd_facts.specs.Expansion.{counts, counted, joined, alone_or_joined, expand, full, judged, expansion, is_compat}
use Rattle.ucd_facts.specs.Facts.{Facts}
use Rattle.ucd_facts.specs.declared.decomposition.Kind.{Kind}
use Rattle.ucd_facts.specs.declared.decomposition.Kind.TheVariants.{Compat}
use Rattle.decomposition.specs.ExpansionProofs.{both_some}
use Rattle.normalisation.specs.ExpandedLemmas.{Each-front, Each-back}
use Rattle.identifier_closure.specs.PointForms.{ExpandTo}
use Rattle.identifier_closure.proofs.FormLemmas.{both_expanded}

-- ---- mappings of one kind or the other

counts_alike : (kind : Kind) (m : List ℕ) → is_compat kind ≡ false → (if counts true kind then m else []) ≡ (if counts false kind then m else [])
counts_alike (Compat tag) m e = cc
counts_alike _ m e = refl

counts_not : (kind : Kind) (m : List ℕ) → is_compat kind ≡ true → (if counts false kind then m else []) ≡ []
counts_not (Compat tag) m e = refl
counts_not _ m e = cc

-- ---- both expansions of a point, level by level

module _ (F : ℕ → Facts) where
  abbrev NotCompat : ℕ → Type 0
  NotCompat x = is_compat (F x).kind ≡ false

  -- f gives the expansions by canonical mappings, and g those by all
  abbrev Gives : (ℕ → Option (List ℕ)) → (ℕ → Option (List ℕ)) → Type 0
  Gives f g = (x : ℕ) (points : List ℕ) → f x ≡ Some points → Each NotCompat points → g x ≡ Some points

  joined_same : (f g : ℕ → Option (List ℕ)) → Gives f g → (xs points : List ℕ) → joined f xs ≡ Some points → Each NotCompat points → joined g xs ≡ Some points
  joined_same f g gives [] points e each = e
  joined_same f g gives (x ∷ xs) points e each =
      let parts = both_some (f x) (joined f xs) points e in
      let all : Each NotCompat (parts.0 ++ parts.1) = subst (Each NotCompat) (sym parts.4) each in
      rw (gives x parts.0 parts.2 (Each-front NotCompat parts.0 parts.1 all), joined_same f g gives xs parts.1 parts.3 (Each-back NotCompat parts.0 parts.1 all)) (ap (λ zs. Some zs) parts.4)

  alone_same : (f g : ℕ → Option (List ℕ)) → Gives f g → (c : ℕ) (mapping points : List ℕ) → alone_or_joined c mapping f ≡ Some points → Each NotCompat points → alone_or_joined c mapping g ≡ Some points
  alone_same f g gives c [] points e each = e
  alone_same f g gives c (x ∷ xs) points e each = joined_same f g gives (x ∷ xs) points e each

  -- a point with a compatibility mapping is its own canonical expansion
  level_same : (n c : ℕ) (points : List ℕ) → Gives (expand F false n) (expand F true n) → expand F false (suc n) c ≡ Some points → Each NotCompat points → (t : Bool) → is_compat (F c).kind ≡ t → expand F true (suc n) c ≡ Some points
  level_same n c points gives e each false t =
      ap (λ m. alone_or_joined c m (expand F true n)) (counts_alike (F c).kind (F c).mapping t) ∙ alone_same (expand F false n) (expand F true n) gives c (counted F false c) points e each
  level_same n c points gives e each true t =
      let alone : c ∷ [] ≡ points = same_Some (c ∷ []) points (sym (ap (λ m. alone_or_joined c m (expand F false n)) (counts_not (F c).kind (F c).mapping t)) ∙ e) in
      let own : Each NotCompat (c ∷ []) = subst (Each NotCompat) (sym alone) each in
      let other : is_compat (F c).kind ≡ false = own.0 in
      cc

  expand_same : (n c : ℕ) (points : List ℕ) → expand F false n c ≡ Some points → Each NotCompat points → expand F true n c ≡ Some points
  expand_same zero c points e each = absurd (none-some points e)
  expand_same (suc n) c points e each = level_same n c points (λ x xs h p. expand_same n x xs h p) e each (is_compat (F c).kind) refl

  each_of : (s : List ℕ) → list_any (λ x. is_compat (F x).kind) s ≡ false → Each NotCompat s
  each_of [] e = tt
  each_of (x ∷ s) e = let parts = or_parts (is_compat (F x).kind) (list_any (λ y. is_compat (F y).kind) s) e in (parts.0, each_of s parts.1)

-- ---- the expansions

full_same : (F : ℕ → Facts) (c : ℕ) (p : List ℕ) → full F false c ≡ Some p → Each (NotCompat F) p → full F true c ≡ Some p
unfolding full
full_same F c p e each = expand_same F 8 c p e each

-- where no member of the canonical expansion has a compatibility mapping, the compatibility expansion is the same
pub compat_same : (F : ℕ → Facts) (c : ℕ) (p : List ℕ) → expansion F false c ≡ Ok p → list_any (λ x. is_compat (F x).kind) p ≡ false → ExpandTo F c p p
compat_same F c p e none =
    let canonical : full F false c ≡ Some p = judged_some (full F false c) p e in
    let compat : full F true c ≡ Some p = full_same F c p canonical (each_of F p none) in
    both_expanded F c p p e (ap judged (compat ∙ sym canonical) ∙ e)
