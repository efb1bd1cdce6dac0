-- Trees without a compatibility mapping.
-- has_compat F n c     a point of the tree of c with n levels has a compatibility mapping
-- canonical_asks F c   what Form C of c asks, if a point of its tree has such a mapping; else nothing: Form KC asks the same
-- compat_here, compat_there, compat_nowhere   with a level left: of c itself, of a member of its mapping, and of none of these
-- forms_alike          where no point of the tree has such a mapping, both forms of c ask the same
use Rattle.std.proofs.Common.{◌≡◌, ◌≢◌, ◌∙◌, ℕ, zero, suc, ◌-◌, Bool, true, false, ◌||◌, List, [], ◌∷◌, Option, if◌then◌else◌, refl, sym, ap, arith}
use Rattle.std.specs.List.{flat_map, list_any}
use Rattle.std.proofs.lemmas.Bool.{or_parts}
use Rattle.std.proofs.Math.Bool.{or-true}
use Rattle.ucd_facts.specs.Expansion.{counts, counted, joined, alone_or_joined, expand, full, is_compat}
use Rattle.ucd_facts.specs.Facts.{Facts}
use Rattle.ucd_facts.specs.declared.decomposition.Kind.{Kind}
use Rattle.ucd_facts.specs.declared.decomposition.Kind.TheVariants.{Compat}
use Rattle.ucd_facts.specs.declared.query.Query.{Query}
use Rattle.query_laws.specs.Questions.{tree, whole_tree, asks}

abbrev pub has_compat : (ℕ → Facts) → ℕ → ℕ → Bool
has_compat F zero c = false
has_compat F (suc n) c = is_compat (F c).kind || list_any (has_compat F n) (counted F true c)

abbrev pub canonical_asks : (ℕ → Facts) → ℕ → List Query
canonical_asks F c = if has_compat F 8 c then asks F false (c ∷ []) else []

compat_below : (F : ℕ → Facts) (n c : ℕ) → n ≢ 0 → has_compat F n c ≡ (is_compat (F c).kind || list_any (has_compat F (n - 1)) (counted F true c))
compat_below F zero c some = absurd (some refl)
compat_below F (suc n) c some =
    let same : suc n - 1 ≡ n = omega arith in
    ap (λ k. is_compat (F c).kind || list_any (has_compat F k) (counted F true c)) (sym same)

pub compat_here : (F : ℕ → Facts) (n c : ℕ) → n ≢ 0 → is_compat (F c).kind ≡ true → true ≡ has_compat F n c
compat_here F n c some e = sym (compat_below F n c some ∙ ap (λ b. b || list_any (has_compat F (n - 1)) (counted F true c)) e)

pub compat_there : (F : ℕ → Facts) (n c : ℕ) (ms : List ℕ) → n ≢ 0 → ms ≡ counted F true c → list_any (has_compat F (n - 1)) ms ≡ true → true ≡ has_compat F n c
compat_there F n c ms some is e = sym (compat_below F n c some ∙ ap (λ b. is_compat (F c).kind || b) (ap (list_any (has_compat F (n - 1))) (sym is) ∙ e) ∙ or-true (is_compat (F c).kind))

pub compat_nowhere : (F : ℕ → Facts) (n c : ℕ) (ms : List ℕ) → n ≢ 0 → is_compat (F c).kind ≡ false → ms ≡ counted F true c → list_any (has_compat F (n - 1)) ms ≡ false → false ≡ has_compat F n c
compat_nowhere F n c ms some here is e = sym (compat_below F n c some ∙ ap (λ b. b || list_any (has_compat F (n - 1)) (counted F true c)) here ∙ ap (list_any (has_compat F (n - 1))) (sym is) ∙ e)

counts_alike : (kind : Kind) (m : List ℕ) → is_compat kind ≡ false → (if counts true kind then m else []) ≡ (if counts false kind then m else [])
counts_alike (Compat tag) m e = cc
counts_alike _ m e = refl

module _ (F : ℕ → Facts) where
  -- f is the same as g at each point below which no mapping is a compatibility mapping
  abbrev Alike : {A : Type 0} → ℕ → (ℕ → A) → (ℕ → A) → Type 0
  Alike n f g = (x : ℕ) → has_compat F n x ≡ false → f x ≡ g x

  trees_alike : (n : ℕ) (f g : ℕ → List ℕ) → Alike n f g → (xs : List ℕ) → list_any (has_compat F n) xs ≡ false → flat_map f xs ≡ flat_map g xs
  trees_alike n f g same [] e = refl
  trees_alike n f g same (x ∷ xs) e =
      let parts = or_parts (has_compat F n x) (list_any (has_compat F n) xs) e in
      rw (same x parts.0, trees_alike n f g same xs parts.1) refl

  tree_alike : (n c : ℕ) → has_compat F n c ≡ false → tree F true n c ≡ tree F false n c
  tree_alike zero c e = refl
  tree_alike (suc n) c e =
      let parts = or_parts (is_compat (F c).kind) (list_any (has_compat F n) (counted F true c)) e in
      ap (λ (xs : List ℕ). c ∷ xs) (trees_alike n (tree F true n) (tree F false n) (λ x none. tree_alike n x none) (counted F true c) parts.1)
      ∙ ap (λ xs. c ∷ flat_map (tree F false n) xs) (counts_alike (F c).kind (F c).mapping parts.0)

  joined_alike : (n : ℕ) (f g : ℕ → Option (List ℕ)) → Alike n f g → (xs : List ℕ) → list_any (has_compat F n) xs ≡ false → joined f xs ≡ joined g xs
  joined_alike n f g same [] e = refl
  joined_alike n f g same (x ∷ xs) e =
      let parts = or_parts (has_compat F n x) (list_any (has_compat F n) xs) e in
      rw (same x parts.0, joined_alike n f g same xs parts.1) refl

  alone_alike : (n : ℕ) (f g : ℕ → Option (List ℕ)) → Alike n f g → (c : ℕ) (xs : List ℕ) → list_any (has_compat F n) xs ≡ false → alone_or_joined c xs f ≡ alone_or_joined c xs g
  alone_alike n f g same c [] e = refl
  alone_alike n f g same c (x ∷ xs) e = joined_alike n f g same (x ∷ xs) e

  expand_alike : (n c : ℕ) → has_compat F n c ≡ false → expand F true n c ≡ expand F false n c
  expand_alike zero c e = refl
  expand_alike (suc n) c e =
      let parts = or_parts (is_compat (F c).kind) (list_any (has_compat F n) (counted F true c)) e in
      alone_alike n (expand F true n) (expand F false n) (λ x none. expand_alike n x none) c (counted F true c) parts.1
      ∙ ap (λ m. alone_or_joined c m (expand F false n)) (counts_alike (F c).kind (F c).mapping parts.0)

  whole_alike : (c : ℕ) → has_compat F 8 c ≡ false → whole_tree F true c ≡ whole_tree F false c
  unfolding whole_tree
  whole_alike c e = tree_alike 8 c e

  full_alike : (c : ℕ) → has_compat F 8 c ≡ false → full F true c ≡ full F false c
  unfolding full
  full_alike c e = expand_alike 8 c e

  pub forms_alike : (c : ℕ) → has_compat F 8 c ≡ false → asks F true (c ∷ []) ≡ asks F false (c ∷ [])
  forms_alike c e = rw (whole_alike c e, full_alike c e) refl
