-- How a text is cut into tokens. UTS #35, "Unicode Sets".
-- opening at bs      the token that begins with `[`, from what stands behind it: a property where a `:` follows, else a bracket set, the
--                    complement of one where a `^` follows
-- escape at bs       the token that begins with `\`, from what stands behind it
-- lexed at bs        the first token of bytes that begin at that place of the text, which is UTF-8, with no white space
-- tokens k at bs     the tokens of bytes that begin at that place of the text, of which k are passed over
use Rattle.std.specs.Prelude.{ℕ, zero, suc, ◌-◌, true, false, ◌==◌, ◌||◌, List, [], ◌∷◌, drop, Option, Some, None, if◌then◌else◌}
use Rattle.bstr.specs.Utf8.{decoded}
use Rattle.unicodeset_parser.specs.Blanks.{blank_size, closes}
use Rattle.unicodeset_parser.specs.Bytes.{begins_with}
use Rattle.unicodeset_parser.specs.Escapes.{any_digits, fixed_digits, plain_escape}
use Rattle.unicodeset_parser.specs.Properties.{property_at, braces}
use Rattle.unicodeset_parser.specs.Tokens.{Sign, open_set, close, dash, meet, letter, wrong, Token, placed, Lexed, sized}
use Rattle.unicodeset_parser.specs.declared.token.BadToken.TheVariants.{CharacterName, Special, Cut, Other}

-- behind `[:`
abbrev pub colon : ℕ → List ℕ → Lexed
colon at bs = if begins_with 94 bs then property_at at true 3 (58 ∷ 93 ∷ []) (drop 1 bs) else property_at at false 2 (58 ∷ 93 ∷ []) bs

unfoldable pub opening : ℕ → List ℕ → Lexed
opening at bs = if begins_with 58 bs then colon at (drop 1 bs) else (if begins_with 94 bs then sized 2 (open_set true) else sized 1 (open_set false))

-- by the character behind the `\`, its size and what stands behind it; no character at the end of the text
abbrev pub escape_by : ℕ → Option ℕ → ℕ → List ℕ → Lexed
escape_by at None size bs = sized 1 (wrong Cut)
escape_by at (Some c) size bs = if c == 112 then braces at false bs else (if c == 80 then braces at true bs else (if c == 78 then sized 1 (wrong CharacterName) else (if c == 117 then any_digits 4 bs else (if c == 120 then any_digits 2 bs else (if c == 85 then fixed_digits 8 bs else plain_escape c size)))))

unfoldable pub escape : ℕ → List ℕ → Lexed
escape at bs = escape_by at (decoded bs).char (decoded bs).size (drop 1 bs)

-- a `-`, from what stands behind it
abbrev pub hyphen : List ℕ → Sign
hyphen bs = if closes 0 bs then letter 45 else dash

-- by the first character, its size and what stands behind its first byte
abbrev pub lexed_by : ℕ → Option ℕ → ℕ → List ℕ → Lexed
lexed_by at None size bs = sized 1 (wrong Other)
lexed_by at (Some c) size bs = if c == 91 then opening at bs else (if c == 93 then sized 1 close else (if c == 38 then sized 1 meet else (if c == 45 then sized 1 (hyphen bs) else (if c == 92 then escape at bs else (if c == 123 || c == 36 then sized 1 (wrong Special) else (if c == 125 || c == 94 then sized 1 (wrong Other) else sized size (letter c)))))))

unfoldable pub lexed : ℕ → List ℕ → Lexed
lexed at bs = lexed_by at (decoded bs).char (decoded bs).size (drop 1 bs)

-- by the white space that the bytes begin with; behind n gives the tokens behind the first byte, of which n are passed over
abbrev pub tokens_by : ℕ → ℕ → Lexed → (ℕ → List Token) → List Token
tokens_by zero at first behind = placed at first.sign ∷ behind (first.size - 1)
tokens_by (suc n) at first behind = behind n

abbrev pub tokens : ℕ → ℕ → List ℕ → List Token
tokens k at [] = []
tokens zero at (b ∷ bs) = tokens_by (blank_size (b ∷ bs)) at (lexed at (b ∷ bs)) (λ n. tokens n (suc at) bs)
tokens (suc k) at (b ∷ bs) = tokens k (suc at) bs
