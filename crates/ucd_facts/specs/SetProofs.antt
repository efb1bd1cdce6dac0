-- Two sets that are kept as bits and have the same properties are one.
-- core_sets_are_told, flag_sets_are_told   so it is of core properties, and of those of PropList.txt
use Rattle.std.proofs.Common.{◌≡◌, ℕ, zero, suc, ◌<◌, ◌^◌, ◌==◌, get_or, refl, subst, arith}
use Rattle.std.specs.Int.{bit_at}
use Rattle.std.proofs.lemmas.Nat.Bits.{bit_at-lt, same_from_bits_below}
use Rattle.ucd_facts.specs.Enumerations.{flags}
use Rattle.ucd_facts.specs.EnumerationProofs.{enumerates_flags, enumerates_core_properties, place-at}
use Rattle.ucd_facts.specs.Predicates.{core_properties}
use Rattle.ucd_facts.specs.Sets.{has_bit, has_flag, has_core, flag_place, core_place}
use Rattle.ucd_facts.specs.declared.property.Core.{Core}
use Rattle.ucd_facts.specs.declared.property.Core.TheVariants.{Math}
use Rattle.ucd_facts.specs.declared.property.Flag.{Flag}
use Rattle.ucd_facts.specs.declared.property.Flag.TheVariants.{WhiteSpace}

bit_or_none : (a b : ℕ) → a < 2 → b < 2 → (a == 1) ≡ (b == 1) → a ≡ b
bit_or_none zero zero p q e = refl
bit_or_none zero (suc zero) p q e = cc
bit_or_none (suc zero) zero p q e = cc
bit_or_none (suc zero) (suc zero) p q e = refl
bit_or_none (suc (suc a)) b p q e = absurd (omega (arith, p))
bit_or_none a (suc (suc b)) p q e = absurd (omega (arith, q))

same_bit : (m n i : ℕ) → has_bit m i ≡ has_bit n i → bit_at m i ≡ bit_at n i
same_bit m n i e = bit_or_none (bit_at m i) (bit_at n i) (bit_at-lt m i) (bit_at-lt n i) e

pub core_sets_are_told : (m n : ℕ) → m < 2 ^ 19 → n < 2 ^ 19 → ((core : Core) → has_core m core ≡ has_core n core) → m ≡ n
core_sets_are_told m n small below same =
    same_from_bits_below 19 m n small below (λ i lt.
    same_bit m n i (subst (λ k. has_bit m k ≡ has_bit n k) (place-at core_properties core_place enumerates_core_properties i Math lt) (same (get_or core_properties i Math))))

pub flag_sets_are_told : (m n : ℕ) → m < 2 ^ 14 → n < 2 ^ 14 → ((flag : Flag) → has_flag m flag ≡ has_flag n flag) → m ≡ n
flag_sets_are_told m n small below same =
    same_from_bits_below 14 m n small below (λ i lt.
    same_bit m n i (subst (λ k. has_bit m k ≡ has_bit n k) (place-at flags flag_place enumerates_flags i WhiteSpace lt) (same (get_or flags i WhiteSpace))))
