-- Each tree that is read can be written, and its text is UTF-8.
use Rattle.std.proofs.Common.{◌≡◌, ℕ, zero, suc, ◌+◌, ◌-◌, ◌<◌, ◌≤◌, Bool, true, false, cond, List, [], ◌∷◌, ◌++◌, length, take, drop, get_or, Option, Some, None, Ok, Err, refl, sym, ap, subst, ◌∙◌, arith, inl, inr, ◌==◌, ◌||◌, ◌⊎◌, nat_le, nat_lt, is_some}
use Rattle.std.proofs.lemmas.Bool.Decides.{nat_tests}
use Rattle.std.proofs.lemmas.List.Sums.{split_at_first, passes_at_first}
use lib.Utf8.{scalar_cases}
use Rattle.std.specs.List.{position_or_len, before_first, after_first}
use Rattle.std.proofs.lemmas.Str.{IsUtf8-from_is_utf8}
use Rattle.std.specs.Str.{IsUtf8, is_utf8}
use Rattle.bstr.specs.Utf8.{decoded}
use Rattle.bstr.proofs.lemmas.SoundLemmas.{SpellsChar-decoded}
use Rattle.ucd_points.specs.Bounds.{Bounds}
use Rattle.ucd_points.specs.Fields.{hex_number, if_point}
use Rattle.unicodeset_parser.specs.Blanks.{blank_size, closes}
use Rattle.unicodeset_parser.specs.Bytes.{begins_with, found_at}
use Rattle.unicodeset_parser.specs.Escapes.{bad_escape, spelled as spelled_letter, fixed_digits, braced_digits, any_digits, control_of, control_or, is_letter_or_digit, plain_escape, brace_at}
use Rattle.unicodeset_parser.specs.Grammar.{Stand, nothing, IsLetter, spelled_out, first_hyphen, IsChars, one, up_to, IsSet, a_property, IsBody, closed, joined}
use Rattle.unicodeset_parser.specs.Grammar as g
use Rattle.unicodeset_parser.specs.Lexing.{tokens, tokens_by, lexed, lexed_by, opening, escape, escape_by}
use Rattle.unicodeset_parser.specs.Machine.{Fault, before, run}
use Rattle.unicodeset_parser.specs.Parsed.{parsed}
use Rattle.unicodeset_parser.specs.Properties.{not_equal, is_equals, property_at, closed_at, property_sign, parted, braces}
use Rattle.unicodeset_parser.specs.Spelling.{holds_brace, joined_name, closing_of, IsProperty, IsSetTree, a_name, a_value, no_name, no_value, a_bracket, no_bracket, AreSteps, none, united, met, taken, spelled, ReadTreesCanBeWritten, ReadTreesAreText, ReadTreesReadBack}
use Rattle.unicodeset_parser.specs.Tokens.{Sign, Token, placed, Lexed, sized, dash, letter, property, wrong}
use Rattle.unicodeset_parser.specs.Trees.{Tree, named, valued, bracket, Step, steps_of, negated_by, bracket_of}
use Rattle.unicodeset_parser.specs.declared.token.BadToken.TheVariants.{RefusedName}
use Rattle.unicodeset_parser.proofs.Closings.{brace_behind_name, no_brace_before, colon_front, front_plain}
use Rattle.unicodeset_parser.proofs.ReadBack.{texts_read_back}
use Rattle.unicodeset_parser.proofs.Sound.{sound}
use Rattle.unicodeset_parser.proofs.TextParts.{EndsText, ends_step, ends_drop, behind_first, before_word}
use Rattle.unicodeset_parser.proofs.TreeTexts.{HasTexts, HaveTexts, negated_texts, text_is_utf8}

-- ---- signs whose letters are code points, and whose properties can be written as texts

abbrev IsGood : Sign → Type 0
IsGood (letter c) = c < 1114112
IsGood (property t) = (n : ℕ) → IsSetTree n t × HasTexts t
IsGood _ = Unit

record Good (x : Lexed) : Type 0 where
  sign : IsGood x.sign

abbrev GoodToken : Token → Type 0
GoodToken (placed at sign) = IsGood sign

abbrev AllGood : List Token → Type 0
AllGood [] = Unit
AllGood (p ∷ ps) = GoodToken p × AllGood ps

good_if : (b : Bool) {x y : Lexed} → Good x → Good y → Good (cond b x y)
good_if true h k = h
good_if false h k = k

good_when : (b : Bool) {x y : Lexed} → (b ≡ true → Good x) → Good y → Good (cond b x y)
good_when true h k = h refl
good_when false h k = k

-- ---- properties

record IsName (negated : Bool) (name : List ℕ) : Type 0 where
  closed : (rest : List ℕ) → found_at (closing_of name) (name ++ (closing_of name ++ rest)) ≡ Some (length name)
  plain : holds_brace name ≡ true → negated ≡ false → begins_with 94 (name ++ 58 ∷ []) ≡ false
  text : IsUtf8 name

named_tree : (negated : Bool) (name : List ℕ) (at n : ℕ) → IsProperty negated name (named name) → IsSetTree n (negated_by negated (named name at))
named_tree true name at n h = no_name h
named_tree false name at n h = a_name h

valued_tree : (negated : Bool) (p v : List ℕ) (at n : ℕ) → IsProperty negated (joined_name p v) (valued p v) → IsSetTree n (negated_by negated (valued p v at))
valued_tree true p v at n h = no_value h
valued_tree false p v at n h = a_value h

is_alone : (negated : Bool) (name : List ℕ) (at : ℕ) → is_some (found_at not_equal name) ≡ false → nat_lt (position_or_len is_equals name) (length name) ≡ false → property_sign negated name at ≡ property (negated_by negated (named name at))
unfolding property_sign
is_alone negated name at h k = rw (h, k) refl

is_parted : (negated : Bool) (name : List ℕ) (at : ℕ) → is_some (found_at not_equal name) ≡ false → nat_lt (position_or_len is_equals name) (length name) ≡ true → begins_with 47 (after_first is_equals name) ≡ false
    → property_sign negated name at ≡ property (negated_by negated (valued (before_first is_equals name) (after_first is_equals name) at))
unfolding property_sign parted
is_parted negated name at h k l = rw (h, k, l) refl

is_refused : (negated : Bool) (name : List ℕ) (at : ℕ) → is_some (found_at not_equal name) ≡ true → property_sign negated name at ≡ wrong RefusedName
unfolding property_sign
is_refused negated name at h = rw h refl

value_refused : (negated : Bool) (name : List ℕ) (at : ℕ) → is_some (found_at not_equal name) ≡ false → nat_lt (position_or_len is_equals name) (length name) ≡ true → begins_with 47 (after_first is_equals name) ≡ true → property_sign negated name at ≡ wrong RefusedName
unfolding property_sign parted
value_refused negated name at h k l = rw (h, k, l) refl

good_as : (s t : Sign) → s ≡ t → IsGood t → IsGood s
good_as s t e h = let P : Sign → Type 0 = λ x. IsGood x in subst P (sym e) h

joins : (name : List ℕ) → nat_lt (position_or_len is_equals name) (length name) ≡ true → name ≡ joined_name (before_first is_equals name) (after_first is_equals name)
joins name h =
    let lt : position_or_len is_equals name < length name = grind (arith, nat_tests) in
    let is : get_or name (position_or_len is_equals name) 0 ≡ 61 = grind (arith, nat_tests, passes_at_first is_equals name 0 lt) in
    split_at_first is_equals name 0 lt ∙ ap (λ b. before_first is_equals name ++ b ∷ after_first is_equals name) is

sign_by : (negated : Bool) (name : List ℕ) (at : ℕ) (a b c : Bool) → is_some (found_at not_equal name) ≡ a → nat_lt (position_or_len is_equals name) (length name) ≡ b → begins_with 47 (after_first is_equals name) ≡ c → IsName negated name → IsGood (property_sign negated name at)
sign_by negated name at true b c h k l is = good_as (property_sign negated name at) (wrong RefusedName) (is_refused negated name at h) tt
sign_by negated name at false true true h k l is = good_as (property_sign negated name at) (wrong RefusedName) (value_refused negated name at h k l) tt
sign_by negated name at false false c h k l is =
    good_as (property_sign negated name at) (property (negated_by negated (named name at))) (is_alone negated name at h k)
    (λ n. (named_tree negated name at n (record { closed = is.closed; spelled = λ at'. is_alone negated name at' h k; plain = is.plain }), negated_texts negated (named name at) is.text))
sign_by negated name at false true false h k l is =
    let p = before_first is_equals name in
    let v = after_first is_equals name in
    let P : List ℕ → Type 0 = λ x. IsProperty negated x (valued p v) in
    let Q : List ℕ → Type 0 = λ x. IsUtf8 x in
    good_as (property_sign negated name at) (property (negated_by negated (valued p v at))) (is_parted negated name at h k l)
    (λ n. (valued_tree negated p v at n (subst P (joins name k) (record { closed = is.closed; spelled = λ at'. is_parted negated name at' h k l; plain = is.plain })), negated_texts negated (valued p v at) (subst Q (joins name k) is.text)))

sign_good : (negated : Bool) (name : List ℕ) (at : ℕ) → IsName negated name → IsGood (property_sign negated name at)
sign_good negated name at is = sign_by negated name at (is_some (found_at not_equal name)) (nat_lt (position_or_len is_equals name) (length name)) (begins_with 47 (after_first is_equals name)) refl refl refl is

closed_good : (at : ℕ) (negated : Bool) (n : ℕ) (closing bs : List ℕ) (r : Option ℕ) → found_at closing bs ≡ r → ((k : ℕ) → found_at closing bs ≡ Some k → IsName negated (take k bs)) → Good (closed_at at negated n closing bs r)
closed_good at negated n closing bs None e names = record { sign = tt }
closed_good at negated n closing bs (Some k) e names = record { sign = sign_good negated (take k bs) at (names k e) }

property_good : (at : ℕ) (negated : Bool) (n : ℕ) (closing bs : List ℕ) → ((k : ℕ) → found_at closing bs ≡ Some k → IsName negated (take k bs)) → Good (property_at at negated n closing bs)
unfolding property_at
property_good at negated n closing bs names = closed_good at negated n closing bs (found_at closing bs) refl names

closed_by : (name : List ℕ) (b : Bool) → holds_brace name ≡ b → ((rest : List ℕ) → found_at (cond b (58 ∷ 93 ∷ []) (125 ∷ [])) (name ++ (cond b (58 ∷ 93 ∷ []) (125 ∷ []) ++ rest)) ≡ Some (length name))
    → (rest : List ℕ) → found_at (closing_of name) (name ++ (closing_of name ++ rest)) ≡ Some (length name)
closed_by name b e h =
    let P : Bool → Type 0 = λ b. (rest : List ℕ) → found_at (cond b (58 ∷ 93 ∷ []) (125 ∷ [])) (name ++ (cond b (58 ∷ 93 ∷ []) (125 ∷ []) ++ rest)) ≡ Some (length name) in
    subst P (sym e) h

braced_name : (negated : Bool) (bs : List ℕ) → IsUtf8 bs → (k : ℕ) → found_at (125 ∷ []) bs ≡ Some k → IsName negated (take k bs)
braced_name negated bs text k h =
    let no = no_brace_before bs k h in
    record { closed = closed_by (take k bs) false no (λ rest. brace_behind_name (take k bs) rest no); plain = λ e f. absurd (cc); text = before_word 125 [] bs k (omega arith) h text }

colon_closed : (bs : List ℕ) (k : ℕ) (b : Bool) → holds_brace (take k bs) ≡ b → found_at (58 ∷ 93 ∷ []) bs ≡ Some k → (rest : List ℕ) → found_at (closing_of (take k bs)) (take k bs ++ (closing_of (take k bs) ++ rest)) ≡ Some (length (take k bs))
colon_closed bs k true e h = closed_by (take k bs) true e (λ rest. colon_front bs rest k h)
colon_closed bs k false e h = closed_by (take k bs) false e (λ rest. brace_behind_name (take k bs) rest e)

colon_name : (negated : Bool) (bs : List ℕ) → IsUtf8 bs → (k : ℕ) → (negated ≡ false → begins_with 94 bs ≡ false) → found_at (58 ∷ 93 ∷ []) bs ≡ Some k → IsName negated (take k bs)
colon_name negated bs text k free h = record { closed = colon_closed bs k (holds_brace (take k bs)) refl h; plain = λ e f. front_plain bs k (free f); text = before_word 58 (93 ∷ []) bs k (omega arith) h text }

-- ---- tokens

good_escape : Good bad_escape
good_escape = record { sign = tt }

braces_good : (at : ℕ) (negated : Bool) (bs : List ℕ) → EndsText bs → Good (braces at negated bs)
braces_good at negated [] text = record { sign = tt }
braces_good at negated (b ∷ bs) text = good_when (b == 123) (λ e. property_good at negated 3 (125 ∷ []) bs (braced_name negated bs (behind_first 123 (b ∷ bs) (omega arith) e text))) good_escape

colon_by : (at : ℕ) (bs : List ℕ) (b : Bool) → begins_with 94 bs ≡ b → IsUtf8 bs → Good (cond b (property_at at true 3 (58 ∷ 93 ∷ []) (drop 1 bs)) (property_at at false 2 (58 ∷ 93 ∷ []) bs))
colon_by at bs true e text = property_good at true 3 (58 ∷ 93 ∷ []) (drop 1 bs) (λ k. colon_name true (drop 1 bs) (behind_first 94 bs (omega arith) e ([], text)) k (λ f. absurd (cc)))
colon_by at bs false e text = property_good at false 2 (58 ∷ 93 ∷ []) bs (λ k. colon_name false bs text k (λ f. e))

opening_good : (at : ℕ) (bs : List ℕ) → EndsText bs → Good (opening at bs)
unfolding opening
opening_good at bs text = good_when (begins_with 58 bs) (λ e. colon_by at (drop 1 bs) (begins_with 94 (drop 1 bs)) refl (behind_first 58 bs (omega arith) e text)) (good_if (begins_with 94 bs) (record { sign = tt }) (record { sign = tt }))

spelled_by : (size n : ℕ) (b : Bool) → nat_lt n 1114112 ≡ b → Good (spelled_letter size (cond b (Some n) None))
spelled_by size n false e = good_escape
spelled_by size n true e = record { sign = grind (arith, nat_tests) }

spelled_good : (size : ℕ) (r : Option ℕ) → Good (spelled_letter size (if_point r))
spelled_good size None = good_escape
spelled_good size (Some n) = spelled_by size n (nat_lt n 1114112) refl

fixed_good : (n : ℕ) (bs : List ℕ) → Good (fixed_digits n bs)
unfolding fixed_digits
fixed_good n bs = good_if (nat_le n (length bs)) (spelled_good (2 + n) (hex_number (take n bs))) good_escape

braced_good : (bs : List ℕ) → Good (braced_digits bs)
unfolding braced_digits
braced_good bs = let n = brace_at bs in good_if (nat_le (length bs) n || ((n == 0) || nat_le 7 n)) good_escape (spelled_good (4 + n) (hex_number (take n bs)))

any_good : (n : ℕ) (bs : List ℕ) → Good (any_digits n bs)
any_good n bs = good_if (begins_with 123 bs) (braced_good (drop 1 bs)) (fixed_good n bs)

abbrev Below : Option ℕ → Type 0
Below None = Unit
Below (Some c) = c < 1114112

below_if : (b : Bool) (k : ℕ) (r : Option ℕ) → k < 1114112 → Below r → Below (cond b (Some k) r)
below_if true k r lt h = lt
below_if false k r lt h = h

control_below : (c : ℕ) → Below (control_of c)
unfolding control_of
control_below c = below_if (c == 97) 7 _ (omega arith) (below_if (c == 98) 8 _ (omega arith) (below_if (c == 116) 9 _ (omega arith) (below_if (c == 110) 10 _ (omega arith) (below_if (c == 118) 11 _ (omega arith) (below_if (c == 102) 12 _ (omega arith) (below_if (c == 114) 13 None (omega arith) tt))))))

control_good : (r : Option ℕ) (c size : ℕ) → Below r → c < 1114112 → Good (control_or r c size)
control_good (Some k) c size h lt = record { sign = h }
control_good None c size h lt = good_if (is_letter_or_digit c) good_escape (record { sign = lt })

plain_good : (c size : ℕ) → c < 1114112 → Good (plain_escape c size)
unfolding plain_escape
plain_good c size lt = control_good (control_of c) c size (control_below c) lt

scalar_below : (c : ℕ) → (c < 55296) ⊎ ((57344 ≤ c) × (c < 1114112)) → c < 1114112
scalar_below c (inl h) = omega arith
scalar_below c (inr h) = h.1

char_below : (bs : List ℕ) (c : ℕ) → (decoded bs).char ≡ Some c → c < 1114112
char_below bs c h = scalar_below c (scalar_cases c (SpellsChar-decoded bs c h).scalar)

escape_by_good : (at : ℕ) (r : Option ℕ) (size : ℕ) (bs : List ℕ) → EndsText bs → ((c : ℕ) → r ≡ Some c → c < 1114112) → Good (escape_by at r size bs)
escape_by_good at None size bs text h = record { sign = tt }
escape_by_good at (Some c) size bs text h =
    good_if (c == 112) (braces_good at false bs text)
    (good_if (c == 80) (braces_good at true bs text)
    (good_if (c == 78) (record { sign = tt })
    (good_if (c == 117) (any_good 4 bs)
    (good_if (c == 120) (any_good 2 bs)
    (good_if (c == 85) (fixed_good 8 bs) (plain_good c size (h c refl)))))))

escape_good : (at : ℕ) (bs : List ℕ) → EndsText bs → Good (escape at bs)
unfolding escape
escape_good at bs text = escape_by_good at (decoded bs).char (decoded bs).size (drop 1 bs) (ends_drop bs text) (char_below bs)

hyphen_good : (b : Bool) → Good (sized 1 (cond b (letter 45) dash))
hyphen_good true = record { sign = omega arith }
hyphen_good false = record { sign = tt }

lexed_by_good : (at : ℕ) (r : Option ℕ) (size : ℕ) (bs : List ℕ) → EndsText bs → ((c : ℕ) → r ≡ Some c → c < 1114112) → Good (lexed_by at r size bs)
lexed_by_good at None size bs text h = record { sign = tt }
lexed_by_good at (Some c) size bs text h =
    good_if (c == 91) (opening_good at bs text)
    (good_if (c == 93) (record { sign = tt })
    (good_if (c == 38) (record { sign = tt })
    (good_if (c == 45) (hyphen_good (closes 0 bs))
    (good_if (c == 92) (escape_good at bs text)
    (good_if ((c == 123) || (c == 36)) (record { sign = tt })
    (good_if ((c == 125) || (c == 94)) (record { sign = tt }) (record { sign = h c refl })))))))

lexed_good : (at : ℕ) (bs : List ℕ) → EndsText bs → Good (lexed at bs)
unfolding lexed
lexed_good at bs text = lexed_by_good at (decoded bs).char (decoded bs).size (drop 1 bs) (ends_drop bs text) (char_below bs)

tokens_by_good : (n at : ℕ) (x : Lexed) (behind : ℕ → List Token) → Good x → ((m : ℕ) → AllGood (behind m)) → AllGood (tokens_by n at x behind)
tokens_by_good zero at x behind h k = (h.sign, k (x.size - 1))
tokens_by_good (suc n) at x behind h k = k n

tokens_good : (k at : ℕ) (bs : List ℕ) → EndsText bs → AllGood (tokens k at bs)
tokens_good k at [] text = tt
tokens_good zero at (b ∷ bs) text = tokens_by_good (blank_size (b ∷ bs)) at (lexed at (b ∷ bs)) (λ n. tokens n (suc at) bs) (lexed_good at (b ∷ bs) text) (λ m. tokens_good m (suc at) bs (ends_step b bs text))
tokens_good (suc k) at (b ∷ bs) text = tokens_good k (suc at) bs (ends_step b bs text)

-- ---- trees

bracket_tree : (negated : Bool) (n : ℕ) (steps : List Step) → AreSteps n nothing (steps_of steps) → IsSetTree (suc n) (bracket_of negated steps)
bracket_tree true n steps h = no_bracket h
bracket_tree false n steps h = a_bracket h

letter_below : {s : Stand} {p : Token} {c : ℕ} → IsLetter s p c → GoodToken p → c < 1114112
letter_below spelled_out h = h
letter_below first_hyphen h = omega arith

record CharsGood (b : Bounds) (qs : List Token) : Type 0 where
  ascends : b.lo ≤ b.hi
  below : b.hi < 1114112
  good : AllGood qs

chars_good : {s : Stand} {ps : List Token} {b : Bounds} {qs : List Token} → IsChars s ps b qs → AllGood ps → CharsGood b qs
chars_good (one l) h = record { ascends = omega arith; below = letter_below l h.0; good = h.1 }
chars_good (up_to l le) h = record { ascends = le; below = h.1.1.0; good = h.1.1.1 }

mutual
  set_written : {n : ℕ} {ps : List Token} {t : Tree} {rest : List Token} → IsSet n ps t rest → AllGood ps → (IsSetTree n t × HasTexts t) × AllGood rest
  set_written (a_property {n} {at} {t} {ps}) h = (h.0 n, h.1)
  set_written (g.a_bracket {n} {at} {negated} {ps} {rest} {steps} body) h = let b = body_written body h.1 in ((bracket_tree negated n steps b.0.0, negated_texts negated (bracket (steps_of steps)) b.0.1), b.1)

  body_written : {n : ℕ} {s : Stand} {ps : List Token} {steps : List Step} {rest : List Token} → IsBody n s ps steps rest → AllGood ps → (AreSteps n s (steps_of steps) × HaveTexts (steps_of steps)) × AllGood rest
  body_written closed h = ((none, tt), h.1)
  body_written (joined set body) h = let a = set_written set h in let b = body_written body a.1 in ((united a.0.0 b.0.0, (a.0.1, b.0.1)), b.1)
  body_written (g.met set body) h = let a = set_written set h.1 in let b = body_written body a.1 in ((met a.0.0 b.0.0, (a.0.1, b.0.1)), b.1)
  body_written (g.taken set body) h = let a = set_written set h.1 in let b = body_written body a.1 in ((taken a.0.0 b.0.0, (a.0.1, b.0.1)), b.1)
  body_written (g.spelled cs body) h = let a = chars_good cs h in let b = body_written body a.good in ((spelled a.ascends a.below b.0.0, (tt, b.0.1)), b.1)

read_by : (text : List ℕ) (t : Tree) (b : Bool) (at : Fault) → cond b (run (length text) before (tokens 0 0 text)) (Err at) ≡ Ok t → (b ≡ true) × (run (length text) before (tokens 0 0 text) ≡ Ok t)
read_by text t true at h = (refl, h)
read_by text t false at h = absurd (cc)

pub read_is : (text : List ℕ) (t : Tree) → parsed text ≡ Ok t → (is_utf8 text ≡ true) × (run (length text) before (tokens 0 0 text) ≡ Ok t)
unfolding parsed
read_is text t h = read_by text t (is_utf8 text) _ h

written : (text : List ℕ) (t : Tree) → parsed text ≡ Ok t → IsSetTree 64 t × HasTexts t
written text t h =
    let read = read_is text t h in
    (set_written (sound (length text) (tokens 0 0 text) t read.1) (tokens_good 0 0 text ([], IsUtf8-from_is_utf8 text read.0))).0

pub read_trees_can_be_written : ReadTreesCanBeWritten
read_trees_can_be_written text t h = (written text t h).0

pub read_trees_are_text : ReadTreesAreText
read_trees_are_text text t h = text_is_utf8 t (written text t h).1

pub read_trees_read_back : ReadTreesReadBack
read_trees_read_back text t h = texts_read_back t (read_trees_can_be_written text t h) (read_trees_are_text text t h)
