-- Parts of a text that ASCII bounds are texts.
use Rattle.std.proofs.Common.{◌≡◌, ℕ, ◌+◌, ◌<◌, true, List, [], ◌∷◌, ◌++◌, length, take, drop, get_or, Option, Some, sym, subst, arith, append_assoc, length-append, ◌==◌, IsUtf8, IsCharBoundary}
use Rattle.std.proofs.Math.Seq.{get_or-append_seam, drop-append-add}
use Rattle.std.proofs.lemmas.Bool.Decides.{nat_tests}
use Rattle.std.proofs.lemmas.Str.{IsUtf8-drop, IsUtf8-take, IsCharBoundary-after_ascii, IsCharBoundary-before_ascii}
use Rattle.bstr.specs.Find.{FindsNeedle}
use Rattle.unicodeset_parser.specs.Bytes.{begins_with, found_at}
use Rattle.unicodeset_parser.proofs.Found.{found_finds}

-- the bytes are the end of a text
abbrev pub EndsText : List ℕ → Type 0
EndsText bs = (front : List ℕ) × IsUtf8 (front ++ bs)

pub ends_step : (b : ℕ) (bs : List ℕ) → EndsText (b ∷ bs) → EndsText bs
ends_step b bs h = (h.0 ++ b ∷ [], let P : List ℕ → Type 0 = λ xs. IsUtf8 xs in subst P (sym (append_assoc h.0 (b ∷ []) bs)) h.1)

pub ends_drop : (bs : List ℕ) → EndsText bs → EndsText (drop 1 bs)
ends_drop [] h = h
ends_drop (b ∷ bs) h = ends_step b bs h

behind_ascii : (b : ℕ) (bs : List ℕ) → b < 128 → EndsText (b ∷ bs) → IsUtf8 bs
behind_ascii b bs low h =
    let text = h.0 ++ b ∷ bs in
    let here : get_or text (length h.0) 0 < 128 = omega (arith, low, get_or-append_seam h.0 b bs 0) in
    let edge : IsCharBoundary text (length h.0 + 1) = IsCharBoundary-after_ascii text (length h.0) h.1 (omega (arith, length-append h.0 (b ∷ bs))) here in
    let P : List ℕ → Type 0 = λ xs. IsUtf8 xs in
    subst P (drop-append-add h.0 (b ∷ bs) 1) (IsUtf8-drop text (length h.0 + 1) h.1 edge)

pub behind_first : (c : ℕ) (bs : List ℕ) → c < 128 → begins_with c bs ≡ true → EndsText bs → IsUtf8 (drop 1 bs)
behind_first c [] low e h = absurd (cc)
behind_first c (b ∷ bs) low e h =
    let test : (b == c) ≡ true = e in
    let same : b ≡ c = grind (arith, nat_tests, test) in
    behind_ascii b bs (omega (arith, low, same)) h

pub before_word : (c : ℕ) (word bs : List ℕ) (k : ℕ) → c < 128 → found_at (c ∷ word) bs ≡ Some k → IsUtf8 bs → IsUtf8 (take k bs)
before_word c word bs k low e h =
    let P : Option ℕ → Type 0 = λ r. FindsNeedle bs (c ∷ word) 0 r in
    let found : FindsNeedle bs (c ∷ word) 0 (Some k) = subst P e (found_finds (c ∷ word) bs (omega arith)) in
    let same : k + 0 ≡ k = omega arith in
    let Q : ℕ → Type 0 = λ i. get_or bs i 0 ≡ c in
    let is : get_or bs k 0 ≡ c = subst Q same (found.1.reads 0 (omega arith)) in
    IsUtf8-take bs k h (IsCharBoundary-before_ascii bs k (omega (arith, found.1.fits)) (omega (arith, low, is)))
