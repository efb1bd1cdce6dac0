-- Sets of small numbers, a bit for each. The bits of a word m say which numbers of the word at a place pass q.
-- one_bit     the bits of a word with one bit set
-- mask_bit    those of a mask
-- none_shared, some_shared   whether a number passes that is in, if a word shares no bit with m, or some
-- bit_put     a number is in, once one bit of a word is set, if it was in or is that bit's number
-- mask_done, mask_left   the same once m is put into a word: of the numbers up to that word, and of those behind it
use Rattle.std.proofs.Common.{◌≡◌, ◌≢◌, ℕ, ◌+◌, ◌-◌, ◌*◌, ◌/◌, ◌%◌, ◌^◌, ◌<◌, ◌≤◌, Bool, true, false, ◌||◌, ◌==◌, List, length, get_or, set, min, max, sym, ap, ◌∙◌, inl, inr, arith, bit_and, bit_or, get_or-set_same, get_or-set_other, eq-eqb, ne_eqb, w64}
use Rattle.std.proofs.lemmas.Bool.{cases_eq, cases_lt, eqb-true}
use Rattle.std.proofs.lemmas.Bool.Decides.{nat_tests}
use Rattle.std.proofs.lemmas.Nat.{and_le_r, one_shl}
use Rattle.std.proofs.lemmas.Nat.Bits.{bit_at-lt, bit_at-pow_other, bit_at-pow_same, bit_at-trailing_zeros, bit_at-zero, bit_at_and, bit_at_mask_above, bit_at_mask_below, bit_at_mask_inside, bit_at_or, ones_shl, ones_shr}
use Rattle.std.specs.Int.{bit_at, trailing_zeros}
use Rattle.std.proofs.Math.Bool.{or-false}
use Rattle.number_sets.specs.Bits.{bit_in, is_between}

-- ---- the bits of a word

abbrev Marks : (m place : ℕ) → (q : ℕ → Bool) → Type 0
Marks m place q = (k : ℕ) → k / 64 ≡ place → (bit_at m (k % 64) == 1) ≡ q k

one_bit : (x : ℕ) → Marks (1 * 2 ^ (x % 64) % 2 ^ 64) (x / 64) (λ k. k == x)
one_bit x k row = ap (λ m. bit_at m (k % 64) == 1) (one_shl (x % 64) 64 (omega arith)) ∙ elim (cases_eq k x) [
  | inl is ↦ ap (λ i. bit_at (2 ^ (x % 64)) (i % 64) == 1) is ∙ eq-eqb _ 1 (bit_at-pow_same (x % 64)) ∙ sym (eq-eqb k x is)
  | inr other ↦ ap (λ b. b == 1) (bit_at-pow_other (x % 64) (k % 64) (λ e. other (omega arith))) ∙ sym (ne_eqb k x other)
]

abbrev mask : ℕ → ℕ → ℕ
mask from to = bit_and (18446744073709551615 * 2 ^ from % 18446744073709551616) (18446744073709551615 / 2 ^ (63 - to))

mask_is : (from to i : ℕ) → from ≤ 63 → to ≤ 63 → bit_at (mask from to) i ≡ min (bit_at (2 ^ 64 - 2 ^ from) i) (bit_at (2 ^ (to + 1) - 2 ^ 0) i)
mask_is from to i low high =
    let left : 64 - (63 - to) ≡ to + 1 = omega arith in
    bit_at_and _ _ i
    ∙ ap (λ a. min (bit_at a i) (bit_at (18446744073709551615 / 2 ^ (63 - to)) i)) (ones_shl 64 from (omega arith))
    ∙ ap (λ b. min (bit_at (2 ^ 64 - 2 ^ from) i) (bit_at b i)) (ones_shr 64 (63 - to) (omega arith) ∙ ap (λ n. 2 ^ n - 2 ^ 0) left)

pub mask_bit : (place first last from to : ℕ) → from ≡ first - place * 64 → to ≡ min (last - place * 64) 63 → first / 64 ≤ place → place ≤ last / 64 → Marks (mask from to) place (is_between first last)
mask_bit place first last from to is_from is_to begins ends k here =
    let value = mask_is from to (k % 64) (omega arith) (omega arith) in
    elim (cases_lt (k % 64) from) [
      | inl below ↦ let none = bit_at_mask_below from 64 (k % 64) below in grind (arith, nat_tests)
      | inr above ↦ elim (cases_lt to (k % 64)) [
        | inl behind ↦ let none = bit_at_mask_above 0 (to + 1) (k % 64) (omega arith) in grind (arith, nat_tests)
        | inr before ↦
            let one = bit_at_mask_inside from 64 (k % 64) above (omega arith) in
            let other = bit_at_mask_inside 0 (to + 1) (k % 64) (omega arith) (omega arith) in
            grind (arith, nat_tests)
      ]
    ]

module _ (words : List ℕ) (place word m : ℕ) (q : ℕ → Bool) (read : word ≡ get_or words place 0) (marks : Marks m place q) where
  read_bit : (k : ℕ) → k / 64 ≡ place → bit_in words k ≡ (bit_at word (k % 64) == 1)
  read_bit k row = ap (λ i. bit_at (get_or words i 0) (k % 64) == 1) row ∙ ap (λ w. bit_at w (k % 64) == 1) (sym read)

  -- ---- bits that two words share

  pub none_shared : bit_and word m ≡ 0 → (k : ℕ) → k / 64 ≡ place → q k ≡ true → bit_in words k ≡ false
  none_shared none k row passes =
      let marked = eqb-true _ _ (marks k row ∙ passes) in
      let both : min (bit_at word (k % 64)) (bit_at m (k % 64)) ≡ 0 = sym (bit_at_and word m (k % 64)) ∙ ap (λ n. bit_at n (k % 64)) none ∙ bit_at-zero (k % 64) in
      read_bit k row ∙ ne_eqb _ 1 (λ e. absurd (omega arith))

  pub some_shared : m < 2 ^ 64 → bit_and word m ≢ 0 → (k : ℕ) × (q k ≡ true) × (bit_in words k ≡ true)
  some_shared fits some =
      let n = bit_and word m in
      let at = trailing_zeros w64 n in
      let lowest = bit_at-trailing_zeros w64 n (omega arith) (omega (arith, and_le_r word m)) in
      let within : at < 64 = lowest.0 in
      let k : ℕ = place * 64 + at in
      let row : k / 64 ≡ place = omega arith in
      let bit : k % 64 ≡ at = omega arith in
      let both : min (bit_at word at) (bit_at m at) ≡ 1 = sym (bit_at_and word m at) ∙ lowest.1 in
      let first = bit_at-lt word at in
      let second = bit_at-lt m at in
      let in_word : bit_at word at ≡ 1 = omega arith in
      let in_mask : bit_at m at ≡ 1 = omega arith in
      (k, sym (marks k row) ∙ ap (λ i. bit_at m i == 1) bit ∙ eq-eqb _ 1 in_mask, read_bit k row ∙ ap (λ i. bit_at word i == 1) bit ∙ eq-eqb _ 1 in_word)

  -- ---- a word into which another one is put

  module _ (within : place < length words) where
    abbrev new : List ℕ
    new = set words place (bit_or word m)

    here : (k : ℕ) → k / 64 ≡ place → bit_in new k ≡ (bit_in words k || q k)
    here k row =
        ap (λ i. bit_at (get_or new i 0) (k % 64) == 1) row
        ∙ ap (λ w. bit_at w (k % 64) == 1) (get_or-set_same words place (bit_or word m) 0 within)
        ∙ ap (λ b. b == 1) (bit_at_or word m (k % 64))
        ∙ either _ _ (bit_at-lt word (k % 64)) (bit_at-lt m (k % 64))
        ∙ ap (λ b. b || (bit_at m (k % 64) == 1)) (sym (read_bit k row))
        ∙ ap (λ b. bit_in words k || b) (marks k row)
      where
        either : (a b : ℕ) → a < 2 → b < 2 → (max a b == 1) ≡ (a == 1 || b == 1)
        either a b low small = grind (arith, nat_tests)

    there : (k : ℕ) → k / 64 ≢ place → bit_in new k ≡ bit_in words k
    there k apart = ap (λ w. bit_at w (k % 64) == 1) (get_or-set_other words place (k / 64) (bit_or word m) 0 apart)

    module _ (old : List ℕ) (left : (k : ℕ) → place * 64 ≤ k → bit_in words k ≡ bit_in old k) where
      pub mask_done : ((k : ℕ) → k < place * 64 → bit_in words k ≡ (bit_in old k || q k)) → (k : ℕ) → k < (place + 1) * 64 → bit_in (set words place (bit_or word m)) k ≡ (bit_in old k || q k)
      mask_done done k below = elim (cases_lt k (place * 64)) [
        | inl before ↦ there k (λ e. absurd (omega arith)) ∙ done k before
        | inr from ↦ here k (omega arith) ∙ ap (λ b. b || q k) (left k from)
      ]

      pub mask_left : (k : ℕ) → (place + 1) * 64 ≤ k → bit_in (set words place (bit_or word m)) k ≡ bit_in old k
      mask_left k from = there k (λ e. absurd (omega arith)) ∙ left k (omega arith)

pub bit_put : (old words : List ℕ) (x word : ℕ) → x / 64 < length words → word ≡ get_or words (x / 64) 0 → ((i : ℕ) → get_or words i 0 ≡ get_or old i 0)
    → (k : ℕ) → bit_in (set words (x / 64) (bit_or word (1 * 2 ^ (x % 64) % 2 ^ 64))) k ≡ (bit_in old k || k == x)
bit_put old words x word within read same k =
    let kept : bit_in words k ≡ bit_in old k = ap (λ w. bit_at w (k % 64) == 1) (same (k / 64)) in
    elim (cases_eq (k / 64) (x / 64)) [
      | inl row ↦ here words (x / 64) word _ (λ i. i == x) read (one_bit x) within k row ∙ ap (λ b. b || k == x) kept
      | inr apart ↦
          there words (x / 64) word _ (λ i. i == x) read (one_bit x) within k apart
          ∙ kept ∙ sym (or-false (bit_in old k)) ∙ ap (λ b. bit_in old k || b) (sym (ne_eqb k x (λ e. apart (ap (λ i. i / 64) e))))
    ]
