-- The text of a tree is read as the tree.
use Rattle.std.proofs.Common.{◌≡◌, ℕ, suc, ◌+◌, ◌-◌, ◌<◌, Bool, true, false, cond, List, [], ◌∷◌, ◌++◌, length, take, Some, None, Ok, refl, sym, ap, subst, ◌∙◌, arith, append_assoc, length-append, ◌==◌, ◌||◌, nat_le, nat_lt, not, IsUtf8}
use Rattle.std.proofs.lemmas.Bool.Decides.{nat_tests}
use Rattle.std.proofs.lemmas.Str.{is_utf8-from_IsUtf8}
use Rattle.std.specs.List.{All, position_or_len}
use Rattle.ucd_points.specs.HexText.{hex_text}
use Rattle.ucd_points.specs.Fields.{hex_number, if_point}
use Rattle.ucd_points.specs.HexTextLaws.{IsUpperHex}
use Rattle.ucd_points.specs.HexTextProofs.{hex_text_has_four_to_six_digits, hex_text_is_upper_case, hex_text_spells_its_number}
use Rattle.unicodeset_parser.specs.Blanks.{is_white, closes}
use Rattle.unicodeset_parser.specs.Bytes.{begins_with, found_at}
use Rattle.unicodeset_parser.specs.Escapes.{spelled as spelled_letter, braced_digits, bad_escape, brace_at}
use Rattle.unicodeset_parser.specs.Grammar.{Stand, nothing, a_set, step_of, spelled_out, up_to, IsSet, a_property, IsBody, closed, joined}
use Rattle.unicodeset_parser.specs.Grammar as g
use Rattle.unicodeset_parser.specs.Lexing.{tokens, lexed_by, escape, escape_by, opening}
use Rattle.unicodeset_parser.specs.Machine.{before, run}
use Rattle.unicodeset_parser.specs.Parsed.{parsed}
use Rattle.unicodeset_parser.specs.Properties.{property_at, property_sign}
use Rattle.unicodeset_parser.specs.Spelling.{letter_onto, holds_brace, colons_onto, braces_onto, property_onto, joined_name, element_onto, steps_onto, text_of, IsProperty, IsSetTree, a_name, a_value, no_name, no_value, a_bracket, no_bracket, AreSteps, none, united, met, taken, spelled, unplaced, unplaced_steps, TextsReadBack}
use Rattle.unicodeset_parser.specs.Tokens.{Token, placed, sized, open_set, dash, letter, property}
use Rattle.unicodeset_parser.specs.Trees.{Tree, chars, named, valued, complement, bracket, Step, Steps, step_then, steps_of, negated_by, bracket_of}
use Rattle.unicodeset_parser.specs.declared.expr.Join.{Join}
use Rattle.unicodeset_parser.specs.declared.expr.Join.TheVariants.{Union, Meet, Minus}
use Rattle.unicodeset_parser.proofs.Complete.{complete}
use Rattle.unicodeset_parser.proofs.Lexemes.{ascii, tokens_ascii, tokens_close, tokens_meet, tokens_dash, tokens_open, tokens_negated, closes_bracket, closes_escape, named_at, behind_token, take_front, bracket_plain, escape_plain}

-- ---- one token

record TokenRead (at : ℕ) (bs : List ℕ) (p : Token) (rest : List ℕ) : Type 0 where
  next : ℕ
  is : tokens 0 at bs ≡ p ∷ tokens 0 next rest

property_token : (at b : ℕ) (negated : Bool) (lead closing name rest : List ℕ) → b < 128 → is_white b ≡ false
    → lexed_by at (Some b) 1 (lead ++ (name ++ (closing ++ rest))) ≡ property_at at negated (suc (length lead)) closing (name ++ (closing ++ rest))
    → found_at closing (name ++ (closing ++ rest)) ≡ Some (length name)
    → TokenRead at (b ∷ (lead ++ (name ++ (closing ++ rest)))) (placed at (property_sign negated name at)) rest
property_token at b negated lead closing name rest low plain lex found =
    let bs = lead ++ (name ++ (closing ++ rest)) in
    let front = lead ++ (name ++ closing) in
    let n = suc (length lead) + length name + length closing in
    let whole : bs ≡ front ++ rest = sym (append_assoc lead (name ++ closing) rest ∙ ap (λ xs. lead ++ xs) (append_assoc name closing rest)) in
    let len : n - 1 ≡ length front = omega (arith, length-append lead (name ++ closing), length-append name closing) in
    record {
      next = suc at + length front;
      is = tokens_ascii at b bs low plain
          ∙ ap (λ x. placed at x.sign ∷ tokens (x.size - 1) (suc at) bs) (lex ∙ named_at at negated (suc (length lead)) closing name rest found)
          ∙ ap (λ xs. placed at (property_sign negated name at) ∷ tokens (n - 1) (suc at) xs) whole
          ∙ ap (λ ts. placed at (property_sign negated name at) ∷ ts) (behind_token front rest (n - 1) at len);
    }

escape_is : (at b : ℕ) (bs : List ℕ) → b < 128 → escape at (b ∷ bs) ≡ escape_by at (Some b) 1 bs
unfolding escape
escape_is at b bs low = ap (λ d. escape_by at d.char d.size bs) (ascii b bs low)

opening_colon : (at : ℕ) (bs : List ℕ) → begins_with 94 bs ≡ false → opening at (58 ∷ bs) ≡ property_at at false 2 (58 ∷ 93 ∷ []) bs
unfolding opening
opening_colon at bs h = rw h refl

opening_caret : (at : ℕ) (bs : List ℕ) → opening at (58 ∷ 94 ∷ bs) ≡ property_at at true 3 (58 ∷ 93 ∷ []) bs
unfolding opening
opening_caret at bs = refl

braces_read : (at : ℕ) (negated : Bool) (name rest : List ℕ) → found_at (125 ∷ []) (name ++ 125 ∷ rest) ≡ Some (length name) → TokenRead at (braces_onto negated name rest) (placed at (property_sign negated name at)) rest
braces_read at true name rest h = property_token at 92 true (80 ∷ 123 ∷ []) (125 ∷ []) name rest (omega arith) escape_plain (escape_is at 80 (123 ∷ (name ++ 125 ∷ rest)) (omega arith)) h
braces_read at false name rest h = property_token at 92 false (112 ∷ 123 ∷ []) (125 ∷ []) name rest (omega arith) escape_plain (escape_is at 112 (123 ∷ (name ++ 125 ∷ rest)) (omega arith)) h

begins_either : (b : ℕ) (name rest : List ℕ) → begins_with b (name ++ 58 ∷ []) ≡ false → begins_with b (name ++ 58 ∷ rest) ≡ false
begins_either b [] rest h = h
begins_either b (x ∷ xs) rest h = h

colons_read : (at : ℕ) (negated : Bool) (name rest : List ℕ) → found_at (58 ∷ 93 ∷ []) (name ++ 58 ∷ 93 ∷ rest) ≡ Some (length name) → (negated ≡ false → begins_with 94 (name ++ 58 ∷ []) ≡ false) → TokenRead at (colons_onto negated name rest) (placed at (property_sign negated name at)) rest
colons_read at true name rest h k = property_token at 91 true (58 ∷ 94 ∷ []) (58 ∷ 93 ∷ []) name rest (omega arith) bracket_plain (opening_caret at (name ++ 58 ∷ 93 ∷ rest)) h
colons_read at false name rest h k = property_token at 91 false (58 ∷ []) (58 ∷ 93 ∷ []) name rest (omega arith) bracket_plain (opening_colon at (name ++ 58 ∷ 93 ∷ rest) (begins_either 94 name (93 ∷ rest) (k refl))) h

property_by : (at : ℕ) (negated : Bool) (name rest : List ℕ) (b : Bool) → ((rest : List ℕ) → found_at (cond b (58 ∷ 93 ∷ []) (125 ∷ [])) (name ++ (cond b (58 ∷ 93 ∷ []) (125 ∷ []) ++ rest)) ≡ Some (length name))
    → (b ≡ true → negated ≡ false → begins_with 94 (name ++ 58 ∷ []) ≡ false) → TokenRead at (cond b (colons_onto negated name rest) (braces_onto negated name rest)) (placed at (property_sign negated name at)) rest
property_by at negated name rest true h k = colons_read at negated name rest (h rest) (k refl)
property_by at negated name rest false h k = braces_read at negated name rest (h rest)

property_read : (at : ℕ) (negated : Bool) (name : List ℕ) (make : ℕ → Tree) (rest : List ℕ) → IsProperty negated name make → TokenRead at (property_onto negated name rest) (placed at (property (negated_by negated (make at)))) rest
property_read at negated name make rest h =
    let r = property_by at negated name rest (holds_brace name) h.closed h.plain in
    record { next = r.next; is = r.is ∙ ap (λ sign. placed at sign ∷ tokens 0 r.next rest) (h.spelled at) }

-- ---- a letter

no_brace : (b : ℕ) → IsUpperHex b → (b == 125) ≡ false
no_brace b h = grind (arith, nat_tests)

brace_behind : (xs rest : List ℕ) → All IsUpperHex xs → position_or_len (λ b. b == 125) (xs ++ 125 ∷ rest) ≡ length xs
brace_behind [] rest h = refl
brace_behind (x ∷ xs) rest h =
    let ih : position_or_len (λ b. b == 125) (xs ++ 125 ∷ rest) ≡ length xs = brace_behind xs rest (λ k d lt. h (suc k) d (omega arith)) in
    let more : 1 + position_or_len (λ b. b == 125) (xs ++ 125 ∷ rest) ≡ suc (length xs) = omega (arith, ih) in
    ap (λ t. cond (not t) (1 + position_or_len (λ b. b == 125) (xs ++ 125 ∷ rest)) 0) (no_brace x (h 0 0 (omega arith))) ∙ more

digits_by : (bs : List ℕ) (n c : ℕ) → brace_at bs ≡ n → nat_le (length bs) n ≡ false → (n == 0) ≡ false → nat_le 7 n ≡ false → hex_number (take n bs) ≡ Some c → nat_lt c 1114112 ≡ true
    → braced_digits bs ≡ sized (4 + n) (letter c)
unfolding braced_digits
digits_by bs n c e a b d h lt =
    ap (λ k. cond (nat_le (length bs) k || ((k == 0) || nat_le 7 k)) bad_escape (spelled_letter (4 + k) (if_point (hex_number (take k bs))))) e
    ∙ ap (λ t. cond (t || ((n == 0) || nat_le 7 n)) bad_escape (spelled_letter (4 + n) (if_point (hex_number (take n bs))))) a
    ∙ ap (λ t. cond (t || nat_le 7 n) bad_escape (spelled_letter (4 + n) (if_point (hex_number (take n bs))))) b
    ∙ ap (λ t. cond t bad_escape (spelled_letter (4 + n) (if_point (hex_number (take n bs))))) d
    ∙ ap (λ x. spelled_letter (4 + n) (if_point x)) h
    ∙ ap (λ t. spelled_letter (4 + n) (cond t (Some c) None)) lt

letter_digits : (c : ℕ) (rest : List ℕ) → c < 1114112 → braced_digits (hex_text c ++ 125 ∷ rest) ≡ sized (4 + length (hex_text c)) (letter c)
letter_digits c rest lt =
    let xs = hex_text c in
    let sizes = hex_text_has_four_to_six_digits c in
    let bs = xs ++ 125 ∷ rest in
    let long : nat_le (length bs) (length xs) ≡ false = grind (arith, nat_tests, length-append xs (125 ∷ rest)) in
    let some : (length xs == 0) ≡ false = grind (arith, nat_tests, sizes.0) in
    let few : nat_le 7 (length xs) ≡ false = grind (arith, nat_tests, sizes.1) in
    let below : nat_lt c 1114112 ≡ true = grind (arith, nat_tests) in
    digits_by bs (length xs) c (brace_behind xs rest (hex_text_is_upper_case c)) long some few (ap hex_number (take_front xs (125 ∷ rest)) ∙ hex_text_spells_its_number c (omega arith)) below

letter_read : (at c : ℕ) (rest : List ℕ) → c < 1114112 → TokenRead at (letter_onto c rest) (placed at (letter c)) rest
letter_read at c rest lt =
    let xs = hex_text c in
    let bs = 117 ∷ 123 ∷ (xs ++ 125 ∷ rest) in
    let front = 117 ∷ 123 ∷ (xs ++ 125 ∷ []) in
    let n = 4 + length xs in
    let whole : bs ≡ front ++ rest = ap (λ ys. 117 ∷ 123 ∷ ys) (sym (append_assoc xs (125 ∷ []) rest)) in
    let len : n - 1 ≡ length front = omega (arith, length-append xs (125 ∷ [])) in
    record {
      next = suc at + length front;
      is = tokens_ascii at 92 bs (omega arith) escape_plain
          ∙ ap (λ x. placed at x.sign ∷ tokens (x.size - 1) (suc at) bs) (escape_is at 117 (123 ∷ (xs ++ 125 ∷ rest)) (omega arith) ∙ letter_digits c rest lt)
          ∙ ap (λ ys. placed at (letter c) ∷ tokens (n - 1) (suc at) ys) whole
          ∙ ap (λ ts. placed at (letter c) ∷ ts) (behind_token front rest (n - 1) at len);
    }

-- ---- sets and steps

record SetBack (n : ℕ) (t : Tree) (at : ℕ) (bs rest : List ℕ) : Type 0 where
  tree : Tree
  next : ℕ
  is : IsSet n (tokens 0 at bs) tree (tokens 0 next rest)
  same : unplaced tree ≡ unplaced t

record StepsBack (n : ℕ) (s : Stand) (steps : Steps) (at : ℕ) (bs rest : List ℕ) : Type 0 where
  list : List Step
  next : ℕ
  is : IsBody n s (tokens 0 at bs) list (tokens 0 next rest)
  same : unplaced_steps (steps_of list) ≡ unplaced_steps steps

from_token : (n at : ℕ) (bs : List ℕ) (u t : Tree) (rest : List ℕ) → TokenRead at bs (placed at (property u)) rest → unplaced u ≡ unplaced t → SetBack n t at bs rest
from_token n at bs u t rest r same =
    let P : List Token → Type 0 = λ ts. IsSet n ts u (tokens 0 r.next rest) in
    record { tree = u; next = r.next; is = subst P (sym r.is) a_property; same = same }

negated_same : (negated : Bool) (list : List Step) (steps : Steps) → unplaced_steps (steps_of list) ≡ unplaced_steps steps → unplaced (bracket_of negated list) ≡ unplaced (negated_by negated (bracket steps))
negated_same true list steps h = ap (λ x. complement (bracket x)) h
negated_same false list steps h = ap (λ x. bracket x) h

opened : (n at at' : ℕ) (negated : Bool) (bs more : List ℕ) (steps : Steps) (rest : List ℕ) → tokens 0 at bs ≡ placed at (open_set negated) ∷ tokens 0 at' more → StepsBack n nothing steps at' more rest
    → SetBack (suc n) (negated_by negated (bracket steps)) at bs rest
opened n at at' negated bs more steps rest e b =
    let P : List Token → Type 0 = λ ts. IsSet (suc n) ts (bracket_of negated b.list) (tokens 0 b.next rest) in
    record { tree = bracket_of negated b.list; next = b.next; is = subst P (sym e) (g.a_bracket b.is); same = negated_same negated b.list steps b.same }

record SetBegins (bs : List ℕ) : Type 0 where
  no_colon : begins_with 58 bs ≡ false
  no_caret : begins_with 94 bs ≡ false
  no_end : closes 0 bs ≡ false

with_bracket : (bs : List ℕ) → SetBegins (91 ∷ bs)
with_bracket bs = record { no_colon = refl; no_caret = refl; no_end = closes_bracket bs }

with_escape : (bs : List ℕ) → SetBegins (92 ∷ bs)
with_escape bs = record { no_colon = refl; no_caret = refl; no_end = closes_escape bs }

property_begins : (negated b : Bool) (name rest : List ℕ) → SetBegins (cond b (colons_onto negated name rest) (braces_onto negated name rest))
property_begins true true name rest = with_bracket _
property_begins false true name rest = with_bracket _
property_begins true false name rest = with_escape _
property_begins false false name rest = with_escape _

set_begins : {n : ℕ} {t : Tree} → IsSetTree n t → (rest : List ℕ) → SetBegins (element_onto t rest)
set_begins (a_name {n} {at} {name} h) rest = property_begins false (holds_brace name) name rest
set_begins (a_value {n} {at} {p} {v} h) rest = property_begins false (holds_brace (joined_name p v)) (joined_name p v) rest
set_begins (no_name {n} {at} {name} h) rest = property_begins true (holds_brace name) name rest
set_begins (no_value {n} {at} {p} {v} h) rest = property_begins true (holds_brace (joined_name p v)) (joined_name p v) rest
set_begins (a_bracket {n} {steps} h) rest = with_bracket (steps_onto steps rest)
set_begins (no_bracket {n} {steps} h) rest = with_bracket (94 ∷ steps_onto steps rest)

steps_begin : {n : ℕ} {steps : Steps} → AreSteps n nothing steps → (rest : List ℕ) → (begins_with 58 (steps_onto steps rest) ≡ false) × (begins_with 94 (steps_onto steps rest) ≡ false)
steps_begin none rest = (refl, refl)
steps_begin (united {n} {s} {t} {steps} h k) rest = let b = set_begins h (steps_onto steps rest) in (b.no_colon, b.no_caret)
steps_begin (spelled le lt k) rest = (refl, refl)

same_step : (j : Join) (t u : Tree) (list : List Step) (steps : Steps) → unplaced u ≡ unplaced t → unplaced_steps (steps_of list) ≡ unplaced_steps steps → unplaced_steps (steps_of (step_of j u ∷ list)) ≡ unplaced_steps (step_then j t steps)
same_step j t u list steps h k = ap (λ x. step_then j x (unplaced_steps (steps_of list))) h ∙ ap (λ x. step_then j (unplaced t) x) k

mutual
  set_back : {n : ℕ} {t : Tree} → IsSetTree n t → (at : ℕ) (rest : List ℕ) → SetBack n t at (element_onto t rest) rest
  set_back (a_name {n} {at = at'} {name} h) at rest = from_token n at (property_onto false name rest) (named name at) (named name at') rest (property_read at false name (named name) rest h) refl
  set_back (a_value {n} {at = at'} {p} {v} h) at rest = from_token n at (property_onto false (joined_name p v) rest) (valued p v at) (valued p v at') rest (property_read at false (joined_name p v) (valued p v) rest h) refl
  set_back (no_name {n} {at = at'} {name} h) at rest = from_token n at (property_onto true name rest) (complement (named name at)) (complement (named name at')) rest (property_read at true name (named name) rest h) refl
  set_back (no_value {n} {at = at'} {p} {v} h) at rest = from_token n at (property_onto true (joined_name p v) rest) (complement (valued p v at)) (complement (valued p v at')) rest (property_read at true (joined_name p v) (valued p v) rest h) refl
  set_back (a_bracket {n} {steps} h) at rest = let b = steps_begin h rest in opened n at (suc at) false (91 ∷ steps_onto steps rest) (steps_onto steps rest) steps rest (tokens_open at (steps_onto steps rest) b.0 b.1) (steps_back h (suc at) rest)
  set_back (no_bracket {n} {steps} h) at rest = opened n at (suc (suc at)) true (91 ∷ 94 ∷ steps_onto steps rest) (steps_onto steps rest) steps rest (tokens_negated at (steps_onto steps rest)) (steps_back h (suc (suc at)) rest)

  steps_back : {n : ℕ} {s : Stand} {steps : Steps} → AreSteps n s steps → (at : ℕ) (rest : List ℕ) → StepsBack n s steps at (steps_onto steps rest) rest
  steps_back (none {n} {s}) at rest =
      let P : List Token → Type 0 = λ ts. IsBody n s ts [] (tokens 0 (suc at) rest) in
      record { list = []; next = suc at; is = subst P (sym (tokens_close at rest)) closed; same = refl }
  steps_back (united {n} {s} {t} {steps} h k) at rest =
      let a = set_back h at (steps_onto steps rest) in
      let b = steps_back k a.next rest in
      record { list = step_of Union a.tree ∷ b.list; next = b.next; is = joined a.is b.is; same = same_step Union t a.tree b.list steps a.same b.same }
  steps_back (met {n} {t} {steps} h k) at rest =
      let a = set_back h (suc at) (steps_onto steps rest) in
      let b = steps_back k a.next rest in
      let P : List Token → Type 0 = λ ts. IsBody n a_set ts (step_of Meet a.tree ∷ b.list) (tokens 0 b.next rest) in
      record { list = step_of Meet a.tree ∷ b.list; next = b.next; is = subst P (sym (tokens_meet at (element_onto t (steps_onto steps rest)))) (g.met a.is b.is); same = same_step Meet t a.tree b.list steps a.same b.same }
  steps_back (taken {n} {t} {steps} h k) at rest =
      let a = set_back h (suc at) (steps_onto steps rest) in
      let b = steps_back k a.next rest in
      let P : List Token → Type 0 = λ ts. IsBody n a_set ts (step_of Minus a.tree ∷ b.list) (tokens 0 b.next rest) in
      record { list = step_of Minus a.tree ∷ b.list; next = b.next; is = subst P (sym (tokens_dash at (element_onto t (steps_onto steps rest)) (set_begins h (steps_onto steps rest)).no_end)) (g.taken a.is b.is); same = same_step Minus t a.tree b.list steps a.same b.same }
  steps_back (spelled {n} {s} {b = r} {steps} le lt k) at rest =
      let more = steps_onto steps rest in
      let lo = letter_read at r.lo (45 ∷ letter_onto r.hi more) (omega arith) in
      let hi = letter_read (suc lo.next) r.hi more lt in
      let b = steps_back k hi.next rest in
      let e = lo.is ∙ ap (λ ts. placed at (letter r.lo) ∷ ts) (tokens_dash lo.next (letter_onto r.hi more) (closes_escape _) ∙ ap (λ ts. placed lo.next dash ∷ ts) hi.is) in
      let P : List Token → Type 0 = λ ts. IsBody n s ts (step_of Union (chars r) ∷ b.list) (tokens 0 b.next rest) in
      record { list = step_of Union (chars r) ∷ b.list; next = b.next; is = subst P (sym e) (g.spelled (up_to spelled_out le) b.is); same = same_step Union (chars r) (chars r) b.list steps refl b.same }

read_back : (t u : Tree) → IsUtf8 (text_of t) → run (length (text_of t)) before (tokens 0 0 (text_of t)) ≡ Ok u → parsed (text_of t) ≡ Ok u
unfolding parsed
read_back t u h k = rw (is_utf8-from_IsUtf8 (text_of t) h) k

pub texts_read_back : TextsReadBack
texts_read_back t h utf8 =
    let b = set_back h 0 [] in
    record { tree = b.tree; parsed = read_back t b.tree utf8 (complete (length (text_of t)) (tokens 0 0 (text_of t)) b.tree b.is); same = b.same }
