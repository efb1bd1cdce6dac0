-- The names in the tree of a text ascend by place.
use Rattle.std.proofs.Common.{◌≡◌, ℕ, zero, suc, ◌+◌, ◌-◌, ◌<◌, ◌≤◌, Bool, true, false, cond, List, [], ◌∷◌, ◌++◌, map, length, take, drop, Option, Some, None, refl, sym, ap, subst, ◌∙◌, arith, append_assoc, append-nil, ◌==◌, ◌||◌, nat_lt, nat_le, slice_index, is_some}
use Rattle.std.proofs.lemmas.List.{map-append}
use Rattle.std.specs.List.{position_or_len, before_first, after_first}
use Rattle.std.specs.List.Sorted.{IsStrictlyIncreasing}
use Rattle.bstr.specs.Utf8.{decoded}
use Rattle.ucd_points.specs.Bounds.{Bounds}
use Rattle.ucd_points.specs.Fields.{hex_number, if_point}
use Rattle.unicodeset_parser.specs.Blanks.{blank_size, closes}
use Rattle.unicodeset_parser.specs.Bytes.{begins_with, found_at}
use Rattle.unicodeset_parser.specs.Escapes.{spelled as spelled_letter, fixed_digits, braced_digits, any_digits, control_of, control_or, is_letter_or_digit, plain_escape, brace_at}
use Rattle.unicodeset_parser.specs.Grammar.{Stand, IsLetter, spelled_out, first_hyphen, IsChars, one, up_to, IsSet, a_property, a_bracket, IsBody, closed, joined, met, taken, spelled}
use Rattle.unicodeset_parser.specs.Lexing.{tokens, tokens_by, lexed, lexed_by, opening, escape, escape_by}
use Rattle.unicodeset_parser.specs.Properties.{not_equal, is_equals, property_at, closed_at, property_sign, parted, braces}
use Rattle.unicodeset_parser.specs.Tokens.{Sign, Token, placed, Lexed, sized, open_set, close, dash, meet, letter, property, wrong}
use Rattle.unicodeset_parser.specs.TreeNames.{Name, name_place, tree_names, step_names, PlacesAscend}
use Rattle.unicodeset_parser.specs.Trees.{Tree, named, valued, Step, steps_of, negated_by, bracket_of}
use Rattle.unicodeset_parser.specs.declared.token.BadToken.TheVariants.{RefusedName}
use Rattle.unicodeset_parser.proofs.Sound.{sound}
use Rattle.unicodeset_parser.proofs.Written.{read_is}

-- ---- the names of a tree are those of its tokens

abbrev sign_names : Sign → List Name
sign_names (property t) = tree_names t
sign_names _ = []

abbrev token_names : List Token → List Name
token_names [] = []
token_names (placed at sign ∷ ps) = sign_names sign ++ token_names ps

letter_names : {s : Stand} {p : Token} {c : ℕ} → IsLetter s p c → (ps : List Token) → token_names (p ∷ ps) ≡ token_names ps
letter_names spelled_out ps = refl
letter_names first_hyphen ps = refl

chars_names : {s : Stand} {ps : List Token} {b : Bounds} {qs : List Token} → IsChars s ps b qs → token_names ps ≡ token_names qs
chars_names (one {s} {p} {c} {ps} l) = letter_names l ps
chars_names (up_to {s} {p} {c} {d} {at} {at'} {ps} l le) = letter_names l (placed at dash ∷ placed at' (letter d) ∷ ps)

bracket_names : (negated : Bool) (steps : List Step) → tree_names (bracket_of negated steps) ≡ step_names (steps_of steps)
bracket_names true steps = refl
bracket_names false steps = refl

step_more : (t : Tree) (steps : List Step) (ps qs rest : List Token) → token_names ps ≡ tree_names t ++ token_names qs → token_names qs ≡ step_names (steps_of steps) ++ token_names rest
    → token_names ps ≡ (tree_names t ++ step_names (steps_of steps)) ++ token_names rest
step_more t steps ps qs rest first behind = first ∙ ap (λ ns. tree_names t ++ ns) behind ∙ sym (append_assoc (tree_names t) (step_names (steps_of steps)) (token_names rest))

mutual
  set_names : {n : ℕ} {ps : List Token} {t : Tree} {rest : List Token} → IsSet n ps t rest → token_names ps ≡ tree_names t ++ token_names rest
  set_names a_property = refl
  set_names (a_bracket {n} {at} {negated} {ps} {rest} {steps} body) = body_names body ∙ ap (λ ns. ns ++ token_names rest) (sym (bracket_names negated steps))

  body_names : {n : ℕ} {s : Stand} {ps : List Token} {steps : List Step} {rest : List Token} → IsBody n s ps steps rest → token_names ps ≡ step_names (steps_of steps) ++ token_names rest
  body_names closed = refl
  body_names (joined {n} {s} {ps} {qs} {rest} {t} {steps} set body) = step_more t steps ps qs rest (set_names set) (body_names body)
  body_names (met {n} {at} {ps} {qs} {rest} {t} {steps} set body) = step_more t steps ps qs rest (set_names set) (body_names body)
  body_names (taken {n} {at} {ps} {qs} {rest} {t} {steps} set body) = step_more t steps ps qs rest (set_names set) (body_names body)
  body_names (spelled cs body) = chars_names cs ∙ body_names body

-- ---- the name of a token has the place of the token

abbrev Places : ℕ → Sign → Type 0
Places at (property t) = map name_place (tree_names t) ≡ at ∷ []
Places at _ = Unit

record At (at : ℕ) (x : Lexed) : Type 0 where
  sign : Places at x.sign

at_if : {at : ℕ} (b : Bool) {x y : Lexed} → At at x → At at y → At at (cond b x y)
at_if true h k = h
at_if false h k = k

places_if : (at : ℕ) (b : Bool) (s t : Sign) → Places at s → Places at t → Places at (cond b s t)
places_if at true s t h k = h
places_if at false s t h k = k

named_at : (negated : Bool) (name : List ℕ) (at : ℕ) → Places at (property (negated_by negated (named name at)))
named_at true name at = refl
named_at false name at = refl

valued_at : (negated : Bool) (p v : List ℕ) (at : ℕ) → Places at (property (negated_by negated (valued p v at)))
valued_at true p v at = refl
valued_at false p v at = refl

parted_at : (negated : Bool) (name : List ℕ) (at : ℕ) → Places at (parted negated name at)
unfolding parted
parted_at negated name at = places_if at (begins_with 47 (after_first is_equals name)) (wrong RefusedName) _ tt (valued_at negated (before_first is_equals name) (after_first is_equals name) at)

sign_at : (negated : Bool) (name : List ℕ) (at : ℕ) → Places at (property_sign negated name at)
unfolding property_sign
sign_at negated name at =
    places_if at (is_some (found_at not_equal name)) (wrong RefusedName) _ tt
    (places_if at (nat_lt (position_or_len is_equals name) (length name)) (parted negated name at) (property (negated_by negated (named name at))) (parted_at negated name at) (named_at negated name at))

closed_is_at : (at : ℕ) (negated : Bool) (n : ℕ) (closing bs : List ℕ) (r : Option ℕ) → At at (closed_at at negated n closing bs r)
closed_is_at at negated n closing bs None = record { sign = tt }
closed_is_at at negated n closing bs (Some k) = record { sign = sign_at negated (take k bs) at }

property_is_at : (at : ℕ) (negated : Bool) (n : ℕ) (closing bs : List ℕ) → At at (property_at at negated n closing bs)
unfolding property_at
property_is_at at negated n closing bs = closed_is_at at negated n closing bs (found_at closing bs)

braces_at : (at : ℕ) (negated : Bool) (bs : List ℕ) → At at (braces at negated bs)
braces_at at negated [] = record { sign = tt }
braces_at at negated (b ∷ bs) = at_if (b == 123) (property_is_at at negated 3 (125 ∷ []) bs) (record { sign = tt })

opening_at : (at : ℕ) (bs : List ℕ) → At at (opening at bs)
unfolding opening
opening_at at bs =
    at_if (begins_with 58 bs)
    (at_if (begins_with 94 (drop 1 bs)) (property_is_at at true 3 (58 ∷ 93 ∷ []) (drop 1 (drop 1 bs))) (property_is_at at false 2 (58 ∷ 93 ∷ []) (drop 1 bs)))
    (at_if (begins_with 94 bs) (record { sign = tt }) (record { sign = tt }))

spelled_at : (at size : ℕ) (r : Option ℕ) → At at (spelled_letter size r)
spelled_at at size None = record { sign = tt }
spelled_at at size (Some c) = record { sign = tt }

fixed_at : (at n : ℕ) (bs : List ℕ) → At at (fixed_digits n bs)
unfolding fixed_digits
fixed_at at n bs = at_if (nat_le n (length bs)) (spelled_at at (2 + n) (if_point (hex_number (take n bs)))) (record { sign = tt })

braced_at : (at : ℕ) (bs : List ℕ) → At at (braced_digits bs)
unfolding braced_digits
braced_at at bs = let n = brace_at bs in at_if (nat_le (length bs) n || ((n == 0) || nat_le 7 n)) (record { sign = tt }) (spelled_at at (4 + n) (if_point (hex_number (take n bs))))

any_at : (at n : ℕ) (bs : List ℕ) → At at (any_digits n bs)
any_at at n bs = at_if (begins_with 123 bs) (braced_at at (drop 1 bs)) (fixed_at at n bs)

control_at : (at : ℕ) (r : Option ℕ) (c size : ℕ) → At at (control_or r c size)
control_at at (Some k) c size = record { sign = tt }
control_at at None c size = at_if (is_letter_or_digit c) (record { sign = tt }) (record { sign = tt })

plain_at : (at c size : ℕ) → At at (plain_escape c size)
unfolding plain_escape
plain_at at c size = control_at at (control_of c) c size

escape_by_at : (at : ℕ) (r : Option ℕ) (size : ℕ) (bs : List ℕ) → At at (escape_by at r size bs)
escape_by_at at None size bs = record { sign = tt }
escape_by_at at (Some c) size bs =
    at_if (c == 112) (braces_at at false bs)
    (at_if (c == 80) (braces_at at true bs)
    (at_if (c == 78) (record { sign = tt })
    (at_if (c == 117) (any_at at 4 bs)
    (at_if (c == 120) (any_at at 2 bs)
    (at_if (c == 85) (fixed_at at 8 bs) (plain_at at c size))))))

escape_at : (at : ℕ) (bs : List ℕ) → At at (escape at bs)
unfolding escape
escape_at at bs = escape_by_at at (decoded bs).char (decoded bs).size (drop 1 bs)

hyphen_at : (at : ℕ) (b : Bool) → At at (sized 1 (cond b (letter 45) dash))
hyphen_at at true = record { sign = tt }
hyphen_at at false = record { sign = tt }

lexed_by_at : (at : ℕ) (r : Option ℕ) (size : ℕ) (bs : List ℕ) → At at (lexed_by at r size bs)
lexed_by_at at None size bs = record { sign = tt }
lexed_by_at at (Some c) size bs =
    at_if (c == 91) (opening_at at bs)
    (at_if (c == 93) (record { sign = tt })
    (at_if (c == 38) (record { sign = tt })
    (at_if (c == 45) (hyphen_at at (closes 0 bs))
    (at_if (c == 92) (escape_at at bs)
    (at_if ((c == 123) || (c == 36)) (record { sign = tt })
    (at_if ((c == 125) || (c == 94)) (record { sign = tt }) (record { sign = tt })))))))

lexed_at : (at : ℕ) (bs : List ℕ) → At at (lexed at bs)
unfolding lexed
lexed_at at bs = lexed_by_at at (decoded bs).char (decoded bs).size (drop 1 bs)

-- ---- tokens ascend

abbrev Rise : ℕ → List ℕ → Type 0
Rise low [] = Unit
Rise low (x ∷ xs) = low ≤ x × Rise (suc x) xs

rise_lower : (xs : List ℕ) (low lower : ℕ) → lower ≤ low → Rise low xs → Rise lower xs
rise_lower [] low lower le h = tt
rise_lower (x ∷ xs) low lower le h = (let first = h.0 in omega arith, h.1)

abbrev places : List Token → List ℕ
places ps = map name_place (token_names ps)

token_rises : (at : ℕ) (sign : Sign) (ps : List Token) → Places at sign → Rise (suc at) (places ps) → Rise at (places (placed at sign ∷ ps))
token_rises at (property t) ps h rise =
    let e : places (placed at (property t) ∷ ps) ≡ at ∷ places ps = map-append name_place (tree_names t) (token_names ps) ∙ ap (λ xs. xs ++ places ps) h in
    let P : List ℕ → Type 0 = λ xs. Rise at xs in
    subst P (sym e) (omega arith, rise)
token_rises at (open_set negated) ps h rise = rise_lower (places ps) (suc at) at (omega arith) rise
token_rises at close ps h rise = rise_lower (places ps) (suc at) at (omega arith) rise
token_rises at dash ps h rise = rise_lower (places ps) (suc at) at (omega arith) rise
token_rises at meet ps h rise = rise_lower (places ps) (suc at) at (omega arith) rise
token_rises at (letter c) ps h rise = rise_lower (places ps) (suc at) at (omega arith) rise
token_rises at (wrong w) ps h rise = rise_lower (places ps) (suc at) at (omega arith) rise

tokens_by_rise : (n at : ℕ) (x : Lexed) (behind : ℕ → List Token) → At at x → ((m : ℕ) → Rise (suc at) (places (behind m))) → Rise at (places (tokens_by n at x behind))
tokens_by_rise zero at x behind h rise = token_rises at x.sign (behind (x.size - 1)) h.sign (rise (x.size - 1))
tokens_by_rise (suc n) at x behind h rise = rise_lower (places (behind n)) (suc at) at (omega arith) (rise n)

tokens_rise : (k at : ℕ) (bs : List ℕ) → Rise at (places (tokens k at bs))
tokens_rise k at [] = tt
tokens_rise zero at (b ∷ bs) = tokens_by_rise (blank_size (b ∷ bs)) at (lexed at (b ∷ bs)) (λ n. tokens n (suc at) bs) (lexed_at at (b ∷ bs)) (λ m. tokens_rise m (suc at) bs)
tokens_rise (suc k) at (b ∷ bs) = rise_lower (places (tokens k (suc at) bs)) (suc at) at (omega arith) (tokens_rise k (suc at) bs)

rises_strictly : (low : ℕ) (xs : List ℕ) → Rise low xs → IsStrictlyIncreasing xs
rises_strictly low [] h k lt = absurd (omega arith)
rises_strictly low (x ∷ []) h k lt = absurd (omega arith)
rises_strictly low (x ∷ y ∷ xs) h zero lt = h.1.0
rises_strictly low (x ∷ y ∷ xs) h (suc k) lt =
    let e : suc (k + 1) ≡ suc k + 1 = omega arith in
    let P : ℕ → Type 0 = λ j. slice_index (y ∷ xs) k < slice_index (x ∷ y ∷ xs) j in
    subst P e (rises_strictly (suc x) (y ∷ xs) h.1 k (omega arith))

pub places_ascend : PlacesAscend
places_ascend text t h =
    let ps = tokens 0 0 text in
    let are : token_names ps ≡ tree_names t = set_names (sound (length text) ps t (read_is text t h).1) ∙ append-nil (tree_names t) in
    let P : List Name → Type 0 = λ ns. Rise 0 (map name_place ns) in
    rises_strictly 0 (map name_place (tree_names t)) (subst P are (tokens_rise 0 0 text))
