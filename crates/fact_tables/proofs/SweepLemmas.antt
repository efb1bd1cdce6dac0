-- The keys of candidates that are gathered anew.
use Rattle.std.proofs.Common.{◌≡◌, ℕ, ◌+◌, ◌%◌, ◌<◌, ◌≤◌, true, false, cond, [], ◌∷◌, Option, Some, None, ap, subst, ◌∙◌, arith, inl, inr}
use Rattle.std.proofs.lemmas.Bool.{cases_lt, both_ways}
use Rattle.number_sets.specs.Keys.{has}
use Rattle.ucd_facts.specs.Facts.{Facts}
use Rattle.fact_tables.specs.Index.{Lists, GathersAll, is_gathered, pair_key, is_candidate, candidate_of, two_of}
use Rattle.fact_tables.specs.KeptFacts.{all_kept}
use Rattle.fact_tables.specs.Rest.{RestOf}
use Rattle.fact_tables.specs.declared.pair_index.PairIndex.{PairIndex}
use Rattle.fact_tables.specs.declared.pair_keys.PairKeys.{PairKeys}
use Rattle.fact_tables.proofs.ChangeLemmas.{key_point}
use Rattle.fact_tables.proofs.IndexLemmas.{key_listed, at_end}
use Rattle.fact_tables.proofs.TableLemmas.{candidate_inside}

-- each candidate whose key stands below `from` has its keys gathered
abbrev pub GathersBelow : PairKeys → (ℕ → Facts) → ℕ → Type 0
GathersBelow keys F from = (s y q : ℕ) → is_candidate (F q) ≡ true → (F q).mapping ≡ s ∷ y ∷ [] → pair_key s y + q < from → is_gathered keys s y q ≡ true

-- the next key of the index was looked at
pub gathers_more : (index : PairIndex) (F : ℕ → Facts) (old new : PairKeys) (from key : ℕ) → Lists index F
    → ((s y q : ℕ) → is_gathered old s y q ≡ true → is_gathered new s y q ≡ true)
    → ((k : ℕ) → from ≤ k → k < key → has index.pairs k ≡ false)
    → ((s y q : ℕ) → is_candidate (F q) ≡ true → (F q).mapping ≡ s ∷ y ∷ [] → key ≡ pair_key s y + q → is_gathered new s y q ≡ true)
    → GathersBelow old F from → GathersBelow new F (key + 1)
gathers_more index F old new from key lists grows none kept below s y q kind is lt = elim (cases_lt (pair_key s y + q) from) [
  | inl before ↦ grows s y q (below s y q kind is before)
  | inr past ↦ elim (cases_lt (pair_key s y + q) key) [
    | inl between ↦ absurd (both_ways (has index.pairs (pair_key s y + q)) (none (pair_key s y + q) past between) (key_listed F index s y q lists kind is))
    | inr here ↦ kept s y q kind is (at_end (pair_key s y + q) key here lt)
  ]
]

-- the index has no other key
pub gathers_all : (index : PairIndex) (F : ℕ → Facts) (keys : PairKeys) (from : ℕ) → Lists index F → ((k : ℕ) → from ≤ k → has index.pairs k ≡ false) → GathersBelow keys F from → GathersAll keys F
gathers_all index F keys from lists none below s y q kind is = elim (cases_lt (pair_key s y + q) from) [
  | inl before ↦ below s y q kind is before
  | inr past ↦ absurd (both_ways (has index.pairs (pair_key s y + q)) (none (pair_key s y + q) past) (key_listed F index s y q lists kind is))
]

candidate_is : (facts : Facts) (s y : ℕ) → is_candidate facts ≡ true → facts.mapping ≡ s ∷ y ∷ [] → candidate_of facts ≡ Some (s, y)
candidate_is facts s y kind is = ap (λ b. cond b (two_of facts.mapping) None) kind ∙ ap two_of is

-- the code point of a candidate's key
pub candidate_point : (words : ℕ → ℕ) (rests : ℕ → RestOf) (key s y q : ℕ) → is_candidate (all_kept words rests q) ≡ true → key ≡ pair_key s y + q → key % 2097152 ≡ q
candidate_point words rests key s y q kind at =
    let inside : q < 1114112 = candidate_inside words rests q kind in
    ap (λ (k : ℕ). k % 2097152) at ∙ key_point s y q (omega arith)

-- what is found at a candidate's key are the members of its mapping
pub candidate_found : (words : ℕ → ℕ) (rests : ℕ → RestOf) (key p : ℕ) (found : Option (ℕ × ℕ)) → p ≡ key % 2097152 → found ≡ candidate_of (all_kept words rests p)
    → (s y q : ℕ) → is_candidate (all_kept words rests q) ≡ true → (all_kept words rests q).mapping ≡ s ∷ y ∷ [] → key ≡ pair_key s y + q → found ≡ Some (s, y)
candidate_found words rests key p found at is s y q kind mapping own =
    is ∙ ap (λ (c : ℕ). candidate_of (all_kept words rests c)) (at ∙ candidate_point words rests key s y q kind own) ∙ candidate_is (all_kept words rests q) s y kind mapping

same_two : (two : ℕ × ℕ) (s y : ℕ) → ◌≡◌ {A = Option (ℕ × ℕ)} (Some two) (Some (s, y)) → two ≡ (s, y)
same_two two s y e = cc

none_two : (s y : ℕ) → ◌≡◌ {A = Option (ℕ × ℕ)} None (Some (s, y)) → ⊥
none_two s y e = cc

at_key : (key p a b s y q : ℕ) → p ≡ q → a ≡ s → b ≡ y → key ≡ pair_key s y + q → key ≡ pair_key a b + p
at_key key p a b s y q point first second own = omega arith

-- a candidate that was kept under what was found at its key
pub on_kept : (words : ℕ → ℕ) (rests : ℕ → RestOf) (keys : PairKeys) (key p : ℕ) (two : ℕ × ℕ) → p ≡ key % 2097152 → Some two ≡ candidate_of (all_kept words rests p)
    → (key ≡ pair_key two.0 two.1 + p → is_gathered keys two.0 two.1 p ≡ true)
    → (s y q : ℕ) → is_candidate (all_kept words rests q) ≡ true → (all_kept words rests q).mapping ≡ s ∷ y ∷ [] → key ≡ pair_key s y + q → is_gathered keys s y q ≡ true
on_kept words rests keys key p two at is kept s y q kind mapping own =
    let point : p ≡ q = at ∙ candidate_point words rests key s y q kind own in
    let same : two ≡ (s, y) = same_two two s y (candidate_found words rests key p (Some two) at is s y q kind mapping own) in
    let first : two.0 ≡ s = ap (λ (pair : ℕ × ℕ). pair.0) same in
    let second : two.1 ≡ y = ap (λ (pair : ℕ × ℕ). pair.1) same in
    subst (λ (n : ℕ). is_gathered keys s y n ≡ true) point
    (subst (λ (n : ℕ). is_gathered keys s n p ≡ true) second
    (subst (λ (n : ℕ). is_gathered keys n two.1 p ≡ true) first (kept (at_key key p two.0 two.1 s y q point first second own))))

-- where nothing is found there is no candidate
pub none_kept : (words : ℕ → ℕ) (rests : ℕ → RestOf) (keys : PairKeys) (key p : ℕ) → p ≡ key % 2097152 → None ≡ candidate_of (all_kept words rests p)
    → (s y q : ℕ) → is_candidate (all_kept words rests q) ≡ true → (all_kept words rests q).mapping ≡ s ∷ y ∷ [] → key ≡ pair_key s y + q → is_gathered keys s y q ≡ true
none_kept words rests keys key p at is s y q kind mapping own = absurd (none_two s y (candidate_found words rests key p None at is s y q kind mapping own))

-- a key of no code point is that of no candidate
pub past_kept : (words : ℕ → ℕ) (rests : ℕ → RestOf) (keys : PairKeys) (key : ℕ) → 1114112 ≤ key % 2097152
    → (s y q : ℕ) → is_candidate (all_kept words rests q) ≡ true → (all_kept words rests q).mapping ≡ s ∷ y ∷ [] → key ≡ pair_key s y + q → is_gathered keys s y q ≡ true
past_kept words rests keys key past s y q kind mapping own =
    let inside : q < 1114112 = candidate_inside words rests q kind in
    let point : key % 2097152 ≡ q = candidate_point words rests key s y q kind own in
    absurd (omega arith)
