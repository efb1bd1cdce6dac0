-- The text of a tree whose names are UTF-8 is UTF-8.
use Rattle.std.proofs.Common.{ℕ, ◌<◌, Bool, true, false, cond, List, [], ◌∷◌, ◌++◌, get_or, inl, inr, arith, IsUtf8, IsAscii}
use Rattle.std.proofs.lemmas.Str.{IsUtf8-append, IsUtf8-from_ascii, IsUtf8-nil}
use Rattle.std.proofs.lemmas.List.Elements.{All-from_recursion}
use Rattle.std.proofs.lemmas.Str.Ascii.{IsAscii-from_all}
use Rattle.ucd_points.specs.HexText.{hex_text}
use Rattle.ucd_points.specs.HexTextLaws.{IsUpperHex}
use Rattle.ucd_points.specs.HexTextProofs.{hex_text_is_upper_case}
use Rattle.unicodeset_parser.specs.Spelling.{letter_onto, holds_brace, colons_onto, braces_onto, property_onto, operator_onto, joined_name, element_onto, steps_onto, text_of}
use Rattle.unicodeset_parser.specs.Trees.{Tree, chars, named, valued, complement, bracket, Steps, no_steps, step_then, negated_by}
use Rattle.unicodeset_parser.specs.declared.expr.Join.{Join}
use Rattle.unicodeset_parser.specs.declared.expr.Join.TheVariants.{Union, Meet, Minus}

-- each name in the tree is UTF-8
abbrev mutual
  pub HasTexts : Tree → Type 0
  HasTexts (chars b) = Unit
  HasTexts (named name at) = IsUtf8 name
  HasTexts (valued p v at) = IsUtf8 (joined_name p v)
  HasTexts (complement t) = HasTexts t
  HasTexts (bracket steps) = HaveTexts steps

  pub HaveTexts : Steps → Type 0
  HaveTexts no_steps = Unit
  HaveTexts (step_then join t steps) = HasTexts t × HaveTexts steps

pub negated_texts : (negated : Bool) (t : Tree) → HasTexts t → HasTexts (negated_by negated t)
negated_texts true t h = h
negated_texts false t h = h

byte : (b : ℕ) (rest : List ℕ) → b < 128 → IsUtf8 rest → IsUtf8 (b ∷ rest)
byte b rest low h = IsUtf8-append (b ∷ []) rest (IsUtf8-from_ascii (b ∷ []) (IsAscii-from_all (b ∷ []) (All-from_recursion (λ x. x < 128) (b ∷ []) (low, tt)))) h

upper_low : (b : ℕ) → IsUpperHex b → b < 128
upper_low b (inl h) = omega arith
upper_low b (inr h) = omega arith

hex_ascii : (c : ℕ) → IsAscii (hex_text c)
hex_ascii c = IsAscii-from_all (hex_text c) (λ k d lt. upper_low (get_or (hex_text c) k d) (hex_text_is_upper_case c k d lt))

letter : (c : ℕ) (rest : List ℕ) → IsUtf8 rest → IsUtf8 (letter_onto c rest)
letter c rest h =
    byte 92 _ (omega arith) (byte 117 _ (omega arith) (byte 123 _ (omega arith)
    (IsUtf8-append (hex_text c) (125 ∷ rest) (IsUtf8-from_ascii (hex_text c) (hex_ascii c)) (byte 125 rest (omega arith) h))))

colons : (negated : Bool) (name rest : List ℕ) → IsUtf8 (name ++ 58 ∷ 93 ∷ rest) → IsUtf8 (colons_onto negated name rest)
colons true name rest h = byte 91 _ (omega arith) (byte 58 _ (omega arith) (byte 94 _ (omega arith) h))
colons false name rest h = byte 91 _ (omega arith) (byte 58 _ (omega arith) h)

braces : (negated : Bool) (name rest : List ℕ) → IsUtf8 (name ++ 125 ∷ rest) → IsUtf8 (braces_onto negated name rest)
braces true name rest h = byte 92 _ (omega arith) (byte 80 _ (omega arith) (byte 123 _ (omega arith) h))
braces false name rest h = byte 92 _ (omega arith) (byte 112 _ (omega arith) (byte 123 _ (omega arith) h))

text_if : (b : Bool) {xs ys : List ℕ} → IsUtf8 xs → IsUtf8 ys → IsUtf8 (cond b xs ys)
text_if true h k = h
text_if false h k = k

property : (negated : Bool) (name rest : List ℕ) → IsUtf8 name → IsUtf8 rest → IsUtf8 (property_onto negated name rest)
property negated name rest n h =
    text_if (holds_brace name)
    (colons negated name rest (IsUtf8-append name (58 ∷ 93 ∷ rest) n (byte 58 _ (omega arith) (byte 93 rest (omega arith) h))))
    (braces negated name rest (IsUtf8-append name (125 ∷ rest) n (byte 125 rest (omega arith) h)))

operator : (join : Join) (rest : List ℕ) → IsUtf8 rest → IsUtf8 (operator_onto join rest)
operator Union rest h = h
operator Meet rest h = byte 38 rest (omega arith) h
operator Minus rest h = byte 45 rest (omega arith) h

mutual
  element : (t : Tree) (rest : List ℕ) → HasTexts t → IsUtf8 rest → IsUtf8 (element_onto t rest)
  element (chars b) rest k h = letter b.lo (45 ∷ letter_onto b.hi rest) (byte 45 (letter_onto b.hi rest) (omega arith) (letter b.hi rest h))
  element (named name at) rest k h = property false name rest k h
  element (valued p v at) rest k h = property false (joined_name p v) rest k h
  element (complement (named name at)) rest k h = property true name rest k h
  element (complement (valued p v at)) rest k h = property true (joined_name p v) rest k h
  element (complement (bracket s)) rest k h = byte 91 _ (omega arith) (byte 94 _ (omega arith) (steps s rest k h))
  element (complement (chars b)) rest k h = h
  element (complement (complement t)) rest k h = h
  element (bracket s) rest k h = byte 91 _ (omega arith) (steps s rest k h)

  steps : (s : Steps) (rest : List ℕ) → HaveTexts s → IsUtf8 rest → IsUtf8 (steps_onto s rest)
  steps no_steps rest k h = byte 93 rest (omega arith) h
  steps (step_then join t s) rest k h = operator join (element_onto t (steps_onto s rest)) (element t (steps_onto s rest) k.0 (steps s rest k.1 h))

pub text_is_utf8 : (t : Tree) → HasTexts t → IsUtf8 (text_of t)
text_is_utf8 t k = element t [] k IsUtf8-nil
