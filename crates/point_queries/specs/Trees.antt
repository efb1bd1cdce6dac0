-- tree_below, tree_end   with a level left, the tree is the point and the trees of the members of its mapping, with one level less
use Rattle.std.proofs.Common.{◌≡◌, ◌≢◌, ℕ, zero, suc, ◌-◌, ◌≤◌, Bool, List, [], ◌∷◌, ◌++◌, drop, length, append_assoc, append-nil, sym, ap, ◌∙◌, arith, refl, flat_map}
use Rattle.std.proofs.Math.ListN.{drop_of_length-le}
use Rattle.ucd_facts.specs.Expansion.{counted}
use Rattle.ucd_facts.specs.Facts.{Facts}
use Rattle.ucd_facts.specs.declared.query.Query.{Query}
use Rattle.ucd_facts.specs.declared.query.Query.TheVariants.{Row}
use Rattle.query_laws.specs.Questions.{tree, row_queries}

pub tree_below : (F : ℕ → Facts) (compat : Bool) (n c : ℕ) → n ≢ 0 → tree F compat n c ≡ c ∷ flat_map (tree F compat (n - 1)) (counted F compat c)
tree_below F compat zero c some = absurd (some refl)
tree_below F compat (suc n) c some =
    let same : suc n - 1 ≡ n = omega arith in
    ap (λ k. c ∷ flat_map (tree F compat k) (counted F compat c)) (sym same)

pub tree_end : (F : ℕ → Facts) (compat : Bool) (n c i : ℕ) (mapping : List ℕ) (old put now : List Query) → n ≢ 0 → put ≡ old ++ Row c ∷ [] → mapping ≡ counted F compat c → length mapping ≤ i
    → now ++ row_queries (flat_map (tree F compat (n - 1)) (drop i mapping)) ≡ put ++ row_queries (flat_map (tree F compat (n - 1)) mapping) → now ≡ old ++ row_queries (tree F compat n c)
tree_end F compat n c i mapping old put now some row counts end all =
    sym (append-nil now)
    ∙ ap (λ xs. now ++ row_queries (flat_map (tree F compat (n - 1)) xs)) (sym (drop_of_length-le mapping end))
    ∙ all
    ∙ ap (λ xs. xs ++ row_queries (flat_map (tree F compat (n - 1)) mapping)) row
    ∙ append_assoc old (Row c ∷ []) (row_queries (flat_map (tree F compat (n - 1)) mapping))
    ∙ ap (λ ms. old ++ Row c ∷ row_queries (flat_map (tree F compat (n - 1)) ms)) counts
    ∙ ap (λ xs. old ++ row_queries xs) (sym (tree_below F compat n c some))
