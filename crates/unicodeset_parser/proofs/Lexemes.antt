-- The first token of a text that begins with a known byte.
use Rattle.std.proofs.Common.{◌≡◌, ℕ, suc, ◌+◌, ◌-◌, ◌<◌, Bool, true, false, cond, List, [], ◌∷◌, ◌++◌, length, take, slice_index, Some, refl, ap, ◌∙◌, arith, ◌==◌}
use Rattle.bstr.specs.Utf8.{decoded, good}
use Rattle.bstr.proofs.lemmas.PieceLemmas.{value-1}
use Rattle.unicodeset_parser.specs.Blanks.{is_white, white_size, blank_size, closes, closes_by}
use Rattle.unicodeset_parser.specs.Bytes.{begins_with, found_at}
use Rattle.unicodeset_parser.specs.Lexing.{tokens, tokens_by, lexed, lexed_by, opening}
use Rattle.unicodeset_parser.specs.Properties.{property_at, closed_at, property_sign}
use Rattle.unicodeset_parser.specs.Tokens.{placed, sized, open_set, close, dash, meet, letter}

pub ascii : (b : ℕ) (bs : List ℕ) → b < 128 → decoded (b ∷ bs) ≡ good b 1
ascii b bs low = let l = b ∷ bs in value-1 (length l) b (slice_index l 1) (slice_index l 2) (slice_index l 3) (omega arith, low)

-- the first byte is ASCII and no white space
pub tokens_ascii : (at b : ℕ) (bs : List ℕ) → b < 128 → is_white b ≡ false → tokens 0 at (b ∷ bs) ≡ placed at (lexed_by at (Some b) 1 bs).sign ∷ tokens ((lexed_by at (Some b) 1 bs).size - 1) (suc at) bs
unfolding blank_size lexed
tokens_ascii at b bs low plain =
    ap (λ d. tokens_by (white_size d.char d.size) at (lexed_by at d.char d.size bs) (λ n. tokens n (suc at) bs)) (ascii b bs low)
    ∙ ap (λ w. tokens_by (cond w 1 0) at (lexed_by at (Some b) 1 bs) (λ n. tokens n (suc at) bs)) plain

closes_ascii : (b : ℕ) (bs : List ℕ) → b < 128 → is_white b ≡ false → closes 0 (b ∷ bs) ≡ (b == 93)
unfolding blank_size
closes_ascii b bs low plain =
    ap (λ d. closes_by (white_size d.char d.size) b (λ n. closes n bs)) (ascii b bs low)
    ∙ ap (λ w. closes_by (cond w 1 0) b (λ n. closes n bs)) plain

pub bracket_plain : is_white 91 ≡ false
unfolding is_white
bracket_plain = refl

end_plain : is_white 93 ≡ false
unfolding is_white
end_plain = refl

pub escape_plain : is_white 92 ≡ false
unfolding is_white
escape_plain = refl

meet_plain : is_white 38 ≡ false
unfolding is_white
meet_plain = refl

dash_plain : is_white 45 ≡ false
unfolding is_white
dash_plain = refl

pub tokens_close : (at : ℕ) (bs : List ℕ) → tokens 0 at (93 ∷ bs) ≡ placed at close ∷ tokens 0 (suc at) bs
tokens_close at bs = tokens_ascii at 93 bs (omega arith) end_plain

pub tokens_meet : (at : ℕ) (bs : List ℕ) → tokens 0 at (38 ∷ bs) ≡ placed at meet ∷ tokens 0 (suc at) bs
tokens_meet at bs = tokens_ascii at 38 bs (omega arith) meet_plain

pub closes_bracket : (bs : List ℕ) → closes 0 (91 ∷ bs) ≡ false
closes_bracket bs = closes_ascii 91 bs (omega arith) bracket_plain

pub closes_escape : (bs : List ℕ) → closes 0 (92 ∷ bs) ≡ false
closes_escape bs = closes_ascii 92 bs (omega arith) escape_plain

-- a `-` that no `]` follows
pub tokens_dash : (at : ℕ) (bs : List ℕ) → closes 0 bs ≡ false → tokens 0 at (45 ∷ bs) ≡ placed at dash ∷ tokens 0 (suc at) bs
tokens_dash at bs h = tokens_ascii at 45 bs (omega arith) dash_plain ∙ ap (λ t. placed at (cond t (letter 45) dash) ∷ tokens 0 (suc at) bs) h

opening_negated : (at : ℕ) (bs : List ℕ) → opening at (94 ∷ bs) ≡ sized 2 (open_set true)
unfolding opening
opening_negated at bs = refl

pub tokens_negated : (at : ℕ) (bs : List ℕ) → tokens 0 at (91 ∷ 94 ∷ bs) ≡ placed at (open_set true) ∷ tokens 0 (suc (suc at)) bs
tokens_negated at bs = tokens_ascii at 91 (94 ∷ bs) (omega arith) bracket_plain ∙ ap (λ x. placed at x.sign ∷ tokens (x.size - 1) (suc at) (94 ∷ bs)) (opening_negated at bs)

opening_plain : (at : ℕ) (bs : List ℕ) → begins_with 58 bs ≡ false → begins_with 94 bs ≡ false → opening at bs ≡ sized 1 (open_set false)
unfolding opening
opening_plain at bs h k = rw (h, k) refl

pub tokens_open : (at : ℕ) (bs : List ℕ) → begins_with 58 bs ≡ false → begins_with 94 bs ≡ false → tokens 0 at (91 ∷ bs) ≡ placed at (open_set false) ∷ tokens 0 (suc at) bs
tokens_open at bs h k = tokens_ascii at 91 bs (omega arith) bracket_plain ∙ ap (λ x. placed at x.sign ∷ tokens (x.size - 1) (suc at) bs) (opening_plain at bs h k)

-- bytes that are passed over
pub passed : (xs ys : List ℕ) (at : ℕ) → tokens (length xs) at (xs ++ ys) ≡ tokens 0 (at + length xs) ys
passed [] ys at = let e : at ≡ at + 0 = omega arith in ap (λ n. tokens 0 n ys) e
passed (x ∷ xs) ys at = let e : suc at + length xs ≡ at + suc (length xs) = omega arith in passed xs ys (suc at) ∙ ap (λ n. tokens 0 n ys) e

pub take_front : (xs ys : List ℕ) → take (length xs) (xs ++ ys) ≡ xs
take_front [] ys = refl
take_front (x ∷ xs) ys = ap (λ zs. x ∷ zs) (take_front xs ys)

-- a property whose closing stands first behind its name
pub named_at : (at : ℕ) (negated : Bool) (n : ℕ) (closing name rest : List ℕ) → found_at closing (name ++ (closing ++ rest)) ≡ Some (length name)
    → property_at at negated n closing (name ++ (closing ++ rest)) ≡ sized (n + length name + length closing) (property_sign negated name at)
unfolding property_at
named_at at negated n closing name rest h =
    ap (λ r. closed_at at negated n closing (name ++ (closing ++ rest)) r) h
    ∙ ap (λ xs. sized (n + length name + length closing) (property_sign negated xs at)) (take_front name (closing ++ rest))

-- what stands behind a token of so many bytes, of which the first is gone
pub behind_token : (front rest : List ℕ) (n at : ℕ) → n ≡ length front → tokens n (suc at) (front ++ rest) ≡ tokens 0 (suc at + length front) rest
behind_token front rest n at e = ap (λ m. tokens m (suc at) (front ++ rest)) e ∙ passed front rest (suc at)
