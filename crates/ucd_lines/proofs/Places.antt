-- The place that a search gives is where the first such byte stands.
use Rattle.std.proofs.Common.{◌≡◌, ℕ, ◌==◌, List, length, Some, None, sym, arith}
use Rattle.std.specs.List.{position_or_len}
use Rattle.std.proofs.lemmas.List.Sums.{position_or_len_is}
use Rattle.std.proofs.lemmas.Bool.{false_from_ne_true}
use Rattle.bstr.specs.Find.{IsFirst, Passes, is_byte}

pub found_place : (bs : List ℕ) (byte k : ℕ) → IsFirst (Passes (is_byte byte) bs) 0 (length bs) (Some k) → k ≡ position_or_len (λ b. b == byte) bs
found_place bs byte k h = sym (position_or_len_is (λ b. b == byte) bs k 0 (omega (arith, h.0.high)) (λ j lt. false_from_ne_true _ (h.0.before j (omega arith) lt)) (λ _. h.1))

pub no_place : (bs : List ℕ) (byte : ℕ) → IsFirst (Passes (is_byte byte) bs) 0 (length bs) None → length bs ≡ position_or_len (λ b. b == byte) bs
no_place bs byte h = sym (position_or_len_is (λ b. b == byte) bs (length bs) 0 (omega arith) (λ j lt. false_from_ne_true _ (h j (omega arith) lt)) (λ lt. absurd (omega arith)))
