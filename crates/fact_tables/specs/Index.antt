-- The index of the code points that compose two members by their own facts.
--
-- pair_key s y           where the keys of the pair s, y begin: bits 42 to 62 are s, bits 21 to 41 are y
-- second_key y           where the keys of the second member y begin: bits 21 to 41 are y
-- first_key s            where the keys of all pairs begin that have s as the first member
-- is_gathered keys s y q   q is among the keys of the pair s, y, and of the second member y, and y has no more than 21 bits
-- is_listed index s y q  q is listed under the pair s, y, and under the second member y, and y has no more than 21 bits
-- Lists index F          each candidate whose mapping has two members is listed; other code points may be too
-- GathersAll keys F      each candidate whose mapping has two members has its keys among these
-- is_that s y pair       the pair, where there is one, is s and y; ends_that y pair: its second member is y
-- two_of m               the two members of a mapping; None where it has not two
-- is_candidate facts     a code point with these facts may be a primary composite: by its kind, its class and its exclusion
-- is_candidate_word word   the same, by its word
-- candidate_of facts     the two members of the mapping of a candidate with these facts; None for every other code point
-- may_compose F q s      q may be a primary composite whose mapping begins with s: by its kind, its class and its exclusion, and the
--                        class of s
-- picked F q two         the two, where there are two and q may compose them
-- NoneFrom p m n         no number from m up to n passes p (n does not count); NoneBelow p n: none below n does
-- IsNextBelow p m n found   `found` is the least number from m up to n that passes p; None if none does
use Rattle.std.specs.Prelude.{◌≡◌, ℕ, ◌+◌, ◌*◌, ◌<◌, ◌≤◌, Bool, true, false, ◌&&◌, not, List, [], ◌∷◌, Option, Some, None, MatchOption, ◌==◌, nat_lt, if◌then◌else◌}
use Rattle.number_sets.specs.Keys.{has, is_in}
use Rattle.ucd_facts.specs.Facts.{Facts}
use Rattle.ucd_facts.specs.Composites.{is_canonical}
use Rattle.fact_tables.specs.Word.{class_of_word, excluded_of_word, kind_of_word}
use Rattle.fact_tables.specs.declared.pair_index.PairIndex.{PairIndex}
use Rattle.fact_tables.specs.declared.pair_keys.PairKeys.{PairKeys}

abbrev pub pair_key : ℕ → ℕ → ℕ
pair_key s y = (s * 2097152 + y) * 2097152

abbrev pub second_key : ℕ → ℕ
second_key y = y * 2097152

abbrev pub first_key : ℕ → ℕ
first_key s = s * 4398046511104

abbrev pub is_gathered : PairKeys → ℕ → ℕ → ℕ → Bool
is_gathered keys s y q = nat_lt y 2097152 && (is_in keys.pairs.items (pair_key s y + q) && is_in keys.seconds.items (second_key y + q))

abbrev pub is_listed : PairIndex → ℕ → ℕ → ℕ → Bool
is_listed index s y q = nat_lt y 2097152 && (has index.pairs (pair_key s y + q) && has index.seconds (second_key y + q))

abbrev pub is_candidate : Facts → Bool
is_candidate facts = is_canonical facts.kind && ((facts.class == 0) && not facts.excluded)

abbrev pub Lists : PairIndex → (ℕ → Facts) → Type 0
Lists index F = (s y q : ℕ) → is_candidate (F q) ≡ true → (F q).mapping ≡ s ∷ y ∷ [] → is_listed index s y q ≡ true

abbrev pub GathersAll : PairKeys → (ℕ → Facts) → Type 0
GathersAll keys F = (s y q : ℕ) → is_candidate (F q) ≡ true → (F q).mapping ≡ s ∷ y ∷ [] → is_gathered keys s y q ≡ true

abbrev pub is_that : ℕ → ℕ → Option (ℕ × ℕ) → Bool
is_that s y (Some pair) = (pair.0 == s) && (pair.1 == y)
is_that s y None = false

abbrev pub ends_that : ℕ → Option (ℕ × ℕ) → Bool
ends_that y (Some pair) = pair.1 == y
ends_that y None = false

abbrev pub NoneBelow : (ℕ → Bool) → ℕ → Type 0
NoneBelow p n = (k : ℕ) → k < n → p k ≡ false

abbrev pub NoneFrom : (ℕ → Bool) → ℕ → ℕ → Type 0
NoneFrom p m n = (k : ℕ) → m ≤ k → k < n → p k ≡ false

abbrev pub IsNextBelow : (ℕ → Bool) → ℕ → ℕ → Option ℕ → Type 0
IsNextBelow p m n found = MatchOption found (NoneFrom p m n)
    (λ number. (m ≤ number) × (number < n) × (p number ≡ true) × NoneFrom p m number)

abbrev pub two_of : List ℕ → Option (ℕ × ℕ)
two_of (a ∷ b ∷ []) = Some (a, b)
two_of _ = None

abbrev pub candidate_of : Facts → Option (ℕ × ℕ)
candidate_of facts = if is_candidate facts then two_of facts.mapping else None

abbrev pub is_candidate_word : ℕ → Bool
is_candidate_word word = is_canonical (kind_of_word word) && ((class_of_word word == 0) && not (excluded_of_word word))

abbrev pub may_compose : (ℕ → Facts) → ℕ → ℕ → Bool
may_compose F q s = is_canonical (F q).kind && (((F q).class == 0) && (((F s).class == 0) && not (F q).excluded))

abbrev pub picked : (ℕ → Facts) → ℕ → Option (ℕ × ℕ) → Option (ℕ × ℕ)
picked F q (Some two) = if may_compose F q two.0 then Some two else None
picked F q None = None
