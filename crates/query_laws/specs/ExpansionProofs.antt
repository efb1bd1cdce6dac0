-- Locality of expansion: what stands in its tree decides it.
--
-- F and G are the facts of each code point.
-- SameRows F G xs    F and G give each of the points xs the same facts
-- rows_same          they do if they answer the rows of xs alike
-- same_expansions    the law of the same name
-- leaves_in_tree     what holds of each point of the tree of c holds of each point of its expansion
-- list_same, expansions_leaves   the same of the expansions of a list
use Rattle.std.proofs.Common.{◌≡◌, ℕ, zero, suc, Bool, List, [], ◌∷◌, ◌++◌, Option, Some, Ok, if◌then◌else◌, refl, sym, ap, ◌∙◌, subst, flat_map}
use Rattle.ucd_facts.specs.FactsLemmas.{judged_some}
use Rattle.ucd_facts.specs.Expansion.{counts, counted, joined, alone_or_joined, expand, full, judged, expansion}
use Rattle.ucd_facts.specs.Facts.{Facts}
use Rattle.ucd_model.specs.Forms.{appended, expansions}
use Rattle.ucd_facts.specs.Answers.{SameAnswer, Each}
use Rattle.query_laws.specs.Laws.{SameExpansion, SameExpansions}
use Rattle.query_laws.specs.ListProofs.{Each-left, Each-right, Each-both, both_parts, appended_parts}
use Rattle.query_laws.specs.Questions.{tree, whole_tree, row_queries}

abbrev pub SameRows : (F G : ℕ → Facts) → List ℕ → Type 0
SameRows F G xs = Each (λ x. F x ≡ G x) xs

pub rows_same : (F G : ℕ → Facts) (xs : List ℕ) → Each (SameAnswer F G) (row_queries xs) → SameRows F G xs
rows_same F G [] e = tt
rows_same F G (x ∷ xs) e = (e.0, rows_same F G xs e.1)

alone_or_same : (c : ℕ) (ms : List ℕ) (f g : ℕ → Option (List ℕ)) → joined f ms ≡ joined g ms → alone_or_joined c ms f ≡ alone_or_joined c ms g
alone_or_same c [] f g e = refl
alone_or_same c (m ∷ ms) f g e = e

module _ (F G : ℕ → Facts) (compat : Bool) where
  counted_same : (c : ℕ) → F c ≡ G c → counted G compat c ≡ counted F compat c
  counted_same c e = ap (λ (f : Facts). if counts compat f.kind then f.mapping else []) (sym e)

  record SameMembers (n : ℕ) (ms : List ℕ) : Type 0 where
    expansions : joined (expand G compat n) ms ≡ joined (expand F compat n) ms
    trees : flat_map (tree G compat n) ms ≡ flat_map (tree F compat n) ms

  members_same : (n : ℕ) → ((c : ℕ) → SameRows F G (tree F compat n c) → SameExpansion F G compat n c) → (ms : List ℕ) → SameRows F G (flat_map (tree F compat n) ms) → SameMembers n ms
  members_same n each [] r = record { expansions = refl; trees = refl }
  members_same n each (m ∷ ms) r =
      let here = each m (Each-left (λ x. F x ≡ G x) (tree F compat n m) (flat_map (tree F compat n) ms) r) in
      let rest = members_same n each ms (Each-right (λ x. F x ≡ G x) (tree F compat n m) (flat_map (tree F compat n) ms) r) in
      record { expansions = rw (here.expansion, rest.expansions) refl; trees = rw (here.tree, rest.trees) refl }

  pub expansion_same : (n c : ℕ) → SameRows F G (tree F compat n c) → SameExpansion F G compat n c
  expansion_same zero c r = record { expansion = refl; tree = refl }
  expansion_same (suc n) c r =
      let kept = counted_same c r.0 in
      let below = members_same n (expansion_same n) (counted F compat c) r.1 in
      record {
        expansion = ap (λ ms. alone_or_joined c ms (expand G compat n)) kept ∙ alone_or_same c (counted F compat c) (expand G compat n) (expand F compat n) below.expansions;
        tree = ap (λ ms. c ∷ flat_map (tree G compat n) ms) kept ∙ ap (λ xs. c ∷ xs) below.trees;
      }

  pub full_same : (c : ℕ) → SameRows F G (whole_tree F compat c) → full G compat c ≡ full F compat c
  unfolding full whole_tree
  full_same c r = (expansion_same 8 c r).expansion

  pub whole_same : (c : ℕ) → SameRows F G (whole_tree F compat c) → whole_tree G compat c ≡ whole_tree F compat c
  unfolding whole_tree
  whole_same c r = (expansion_same 8 c r).tree

  pub record SameList (s : List ℕ) : Type 0 where
    pub expansions : expansions G compat s ≡ expansions F compat s
    pub trees : flat_map (whole_tree G compat) s ≡ flat_map (whole_tree F compat) s

  pub list_same : (s : List ℕ) → SameRows F G (flat_map (whole_tree F compat) s) → SameList s
  list_same [] r = record { expansions = refl; trees = refl }
  list_same (c ∷ s) r =
      let own = Each-left (λ x. F x ≡ G x) (whole_tree F compat c) (flat_map (whole_tree F compat) s) r in
      let rest = list_same s (Each-right (λ x. F x ≡ G x) (whole_tree F compat c) (flat_map (whole_tree F compat) s) r) in
      record {
        expansions = ap (λ e. appended (judged e) (expansions G compat s)) (full_same c own) ∙ ap (appended (expansion F compat c)) rest.expansions;
        trees = ap (λ t. t ++ flat_map (whole_tree G compat) s) (whole_same c own) ∙ ap (λ t. whole_tree F compat c ++ t) rest.trees;
      }

pub same_expansions : SameExpansions
same_expansions F G compat n c e = expansion_same F G compat n c (rows_same F G (tree F compat n c) e)

-- ---- the points of an expansion

nothing_left : (P : ℕ → Type 0) (xs : List ℕ) → ◌≡◌ {A = Option (List ℕ)} (Some []) (Some xs) → Each P xs
nothing_left P xs e =
    let same : [] ≡ xs = cc in
    subst (Each P) same tt

module _ (P : ℕ → Type 0) (F : ℕ → Facts) (compat : Bool) where
  members_leaves : (n : ℕ) → ((c : ℕ) (xs : List ℕ) → Each P (tree F compat n c) → expand F compat n c ≡ Some xs → Each P xs)
      → (ms xs : List ℕ) → Each P (flat_map (tree F compat n) ms) → joined (expand F compat n) ms ≡ Some xs → Each P xs
  members_leaves n each [] xs t e = nothing_left P xs e
  members_leaves n each (m ∷ ms) xs t e =
      let parts = both_parts (expand F compat n m) (joined (expand F compat n) ms) xs e in
      let front = each m parts.front (Each-left P (tree F compat n m) (flat_map (tree F compat n) ms) t) parts.first in
      let rest = members_leaves n each ms parts.rest (Each-right P (tree F compat n m) (flat_map (tree F compat n) ms) t) parts.second in
      subst (Each P) parts.whole (Each-both P parts.front parts.rest front rest)

  alone_leaves : (n c : ℕ) → ((d : ℕ) (xs : List ℕ) → Each P (tree F compat n d) → expand F compat n d ≡ Some xs → Each P xs)
      → (ms xs : List ℕ) → P c → Each P (flat_map (tree F compat n) ms) → alone_or_joined c ms (expand F compat n) ≡ Some xs → Each P xs
  alone_leaves n c each [] xs here t e =
      let same : c ∷ [] ≡ xs = cc in
      subst (Each P) same (here, tt)
  alone_leaves n c each (m ∷ ms) xs here t e = members_leaves n each (m ∷ ms) xs t e

  leaves_in_tree : (n c : ℕ) (xs : List ℕ) → Each P (tree F compat n c) → expand F compat n c ≡ Some xs → Each P xs
  leaves_in_tree zero c xs t e = cc
  leaves_in_tree (suc n) c xs t e = alone_leaves n c (leaves_in_tree n) (counted F compat c) xs t.0 t.1 e

  full_leaves : (c : ℕ) (xs : List ℕ) → Each P (whole_tree F compat c) → full F compat c ≡ Some xs → Each P xs
  unfolding full whole_tree
  full_leaves c xs t e = leaves_in_tree 8 c xs t e

  pub expansions_leaves : (s xs : List ℕ) → Each P (flat_map (whole_tree F compat) s) → expansions F compat s ≡ Ok xs → Each P xs
  expansions_leaves [] xs t e =
      let same : [] ≡ xs = cc in
      subst (Each P) same tt
  expansions_leaves (c ∷ s) xs t e =
      let parts = appended_parts (expansion F compat c) (expansions F compat s) xs e in
      let front = full_leaves c parts.front (Each-left P (whole_tree F compat c) (flat_map (whole_tree F compat) s) t) (judged_some (full F compat c) parts.front parts.first) in
      let rest = expansions_leaves s parts.rest (Each-right P (whole_tree F compat c) (flat_map (whole_tree F compat) s) t) parts.second in
      subst (Each P) parts.whole (Each-both P parts.front parts.rest front rest)
