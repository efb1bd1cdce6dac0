-- The tree of an expansion is the least set of points that holds the point and, with each point, the members of its mapping.
-- tree_is_least   the law of the same name
use Rattle.std.proofs.Common.{◌≡◌, ℕ, zero, suc, Bool, true, ◌==◌, List, [], ◌∷◌, Option, Some, refl, sym, ap, ◌∙◌, subst, inl, inr, flat_map}
use Rattle.std.proofs.lemmas.Bool.{true≢false, eqb-true, eq-eqb, or_cases, or_left, or_right}
use Rattle.std.proofs.lemmas.List.Folds.{list_any-append}
use Rattle.ucd_facts.specs.Expansion.{counted, joined, alone_or_joined, expand, full}
use Rattle.ucd_facts.specs.Facts.{Facts}
use Rattle.ucd_model.specs.Sameness.{is_in}
use Rattle.query_laws.specs.Laws.{InTree, TreeIsLeast}
use Rattle.query_laws.specs.Laws.InTree.{here, below}
use Rattle.query_laws.specs.ListProofs.{both_parts}
use Rattle.query_laws.specs.Questions.{tree, whole_tree}

-- a member of a joined list is one of the list of some member, and the other way round
joined_member : (f : ℕ → List ℕ) (ms : List ℕ) (x : ℕ) → is_in (flat_map f ms) x ≡ true → (d : ℕ) × (is_in ms d ≡ true) × (is_in (f d) x ≡ true)
joined_member f [] x e = absurd (true≢false (sym e))
joined_member f (m ∷ ms) x e =
    elim (or_cases (is_in (f m) x) (is_in (flat_map f ms) x) (sym (list_any-append (λ y. y == x) (f m) (flat_map f ms)) ∙ e)) [
      | inl own ↦ (m, or_left (m == m) (is_in ms m) (eq-eqb m m refl), own)
      | inr later ↦ let found = joined_member f ms x later in (found.0, or_right (m == found.0) (is_in ms found.0) found.1, found.2)
    ]

member_joined : (f : ℕ → List ℕ) (ms : List ℕ) (d x : ℕ) → is_in ms d ≡ true → is_in (f d) x ≡ true → is_in (flat_map f ms) x ≡ true
member_joined f [] d x m e = absurd (true≢false (sym m))
member_joined f (y ∷ ms) d x m e =
    list_any-append (λ z. z == x) (f y) (flat_map f ms)
    ∙ elim (or_cases (y == d) (is_in ms d) m) [
      | inl own ↦ or_left (is_in (f y) x) (is_in (flat_map f ms) x) (ap (λ k. is_in (f k) x) (eqb-true y d own) ∙ e)
      | inr later ↦ or_right (is_in (f y) x) (is_in (flat_map f ms) x) (member_joined f ms d x later e)
    ]

module _ (F : ℕ → Facts) (compat : Bool) where
  from_tree : (n c x : ℕ) → is_in (tree F compat n c) x ≡ true → InTree F compat x c
  from_tree zero c x e = absurd (true≢false (sym e))
  from_tree (suc n) c x e =
      elim (or_cases (c == x) (is_in (flat_map (tree F compat n) (counted F compat c)) x) e) [
        | inl own ↦ subst (InTree F compat x) (sym (eqb-true c x own)) here
        | inr later ↦ let found = joined_member (tree F compat n) (counted F compat c) x later in below c found.0 found.1 (from_tree n found.0 x found.2)
      ]

  -- each member of a mapping has an expansion, where its members joined have one
  member_expands : (f : ℕ → Option (List ℕ)) (ms points : List ℕ) (d : ℕ) → joined f ms ≡ Some points → is_in ms d ≡ true → (own : List ℕ) × (f d ≡ Some own)
  member_expands f [] points d e m = absurd (true≢false (sym m))
  member_expands f (y ∷ ms) points d e m =
      let parts = both_parts (f y) (joined f ms) points e in
      elim (or_cases (y == d) (is_in ms d) m) [
        | inl own ↦ (parts.front, sym (ap f (eqb-true y d own)) ∙ parts.first)
        | inr later ↦ member_expands f ms parts.rest d parts.second later
      ]

  below_expands : (f : ℕ → Option (List ℕ)) (c : ℕ) (ms points : List ℕ) (d : ℕ) → alone_or_joined c ms f ≡ Some points → is_in ms d ≡ true → (own : List ℕ) × (f d ≡ Some own)
  below_expands f c [] points d e m = absurd (true≢false (sym m))
  below_expands f c (y ∷ ms) points d e m = member_expands f (y ∷ ms) points d e m

  to_tree : (x c : ℕ) → InTree F compat x c → (n : ℕ) (points : List ℕ) → expand F compat n c ≡ Some points → is_in (tree F compat n c) x ≡ true
  to_tree x c here zero points e = cc
  to_tree x c here (suc n) points e = or_left (x == x) (is_in (flat_map (tree F compat n) (counted F compat x)) x) (eq-eqb x x refl)
  to_tree x c (below _ d m t) zero points e = cc
  to_tree x c (below _ d m t) (suc n) points e =
      let expands = below_expands (expand F compat n) c (counted F compat c) points d e m in
      or_right (c == x) (is_in (flat_map (tree F compat n) (counted F compat c)) x) (member_joined (tree F compat n) (counted F compat c) d x m (to_tree x d t n expands.0 expands.1))

pub tree_is_least : TreeIsLeast
unfolding full whole_tree
tree_is_least F compat c points e x = (from_tree F compat 8 c x, λ t. to_tree F compat x c t 8 points e)
