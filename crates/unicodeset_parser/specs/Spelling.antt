-- The text of a tree. UTS #35, "Unicode Sets".
--
-- Each word puts its text before the bytes `rest`.
-- letter_onto c rest           the escape of a code point: `\u{`, its digits, `}`
-- holds_brace name             a `}` stands in the name
-- property_onto negated name rest   `\p{name}`, or `\P{name}` for the complement; where the name holds a `}`, `[:name:]` or `[:^name:]`
-- complement_onto t rest       the complement of a property or a bracket set
-- element_onto t rest          the text of a tree; characters are a range
-- steps_onto steps rest        the steps of a bracket set, and its `]`
-- text_of t                    the text of a tree alone
-- IsProperty negated name make  the name spells this property: its closing stands first behind it, it has no not-equal sign, its first `=`
--                              parts what make says, and it does not begin with `^` where that would give the complement
-- IsSetTree n t                the tree is of a set in which at most n bracket sets are open at once, and each name spells its property
-- AreSteps n s steps           the steps may stand in a bracket set where s stands before: operators stand behind sets alone, and ranges
--                              ascend, up to 10FFFF
-- CanBeWritten t               a tree of a set with at most 64 bracket sets open at once
-- unplaced t                   the tree with each place of a property left out
-- TextsReadBack                the text of a tree that can be written, where it is UTF-8, is read as that tree, the places of its properties
--                              aside
-- ReadTreesCanBeWritten        each tree that a text is read as can be written
-- ReadTreesAreText             the text of such a tree is UTF-8
-- ReadTreesReadBack            so the text of such a tree is read as that tree again, the places of its properties aside
use Rattle.std.specs.Prelude.{◌≡◌, ℕ, suc, ◌<◌, ◌≤◌, Bool, true, false, List, [], ◌∷◌, ◌++◌, length, Some, Ok, if◌then◌else◌, is_some, IsUtf8}
use Rattle.ucd_points.specs.Bounds.{Bounds}
use Rattle.ucd_points.specs.HexText.{hex_text}
use Rattle.unicodeset_parser.specs.Bytes.{begins_with, found_at}
use Rattle.unicodeset_parser.specs.Grammar.{Stand, nothing, a_set, other}
use Rattle.unicodeset_parser.specs.Parsed.{parsed}
use Rattle.unicodeset_parser.specs.Properties.{property_sign}
use Rattle.unicodeset_parser.specs.Tokens.{property}
use Rattle.unicodeset_parser.specs.Trees.{Tree, chars, named, valued, complement, bracket, Steps, no_steps, step_then, negated_by}
use Rattle.unicodeset_parser.specs.declared.expr.Join.{Join}
use Rattle.unicodeset_parser.specs.declared.expr.Join.TheVariants.{Union, Meet, Minus}

-- ---- texts

abbrev pub letter_onto : ℕ → List ℕ → List ℕ
letter_onto c rest = 92 ∷ 117 ∷ 123 ∷ (hex_text c ++ 125 ∷ rest)

abbrev pub holds_brace : List ℕ → Bool
holds_brace name = is_some (found_at (125 ∷ []) name)

abbrev pub colons_onto : Bool → List ℕ → List ℕ → List ℕ
colons_onto true name rest = 91 ∷ 58 ∷ 94 ∷ (name ++ 58 ∷ 93 ∷ rest)
colons_onto false name rest = 91 ∷ 58 ∷ (name ++ 58 ∷ 93 ∷ rest)

abbrev pub braces_onto : Bool → List ℕ → List ℕ → List ℕ
braces_onto true name rest = 92 ∷ 80 ∷ 123 ∷ (name ++ 125 ∷ rest)
braces_onto false name rest = 92 ∷ 112 ∷ 123 ∷ (name ++ 125 ∷ rest)

abbrev pub property_onto : Bool → List ℕ → List ℕ → List ℕ
property_onto negated name rest = if holds_brace name then colons_onto negated name rest else braces_onto negated name rest

abbrev pub operator_onto : Join → List ℕ → List ℕ
operator_onto Union rest = rest
operator_onto Meet rest = 38 ∷ rest
operator_onto Minus rest = 45 ∷ rest

abbrev pub joined_name : List ℕ → List ℕ → List ℕ
joined_name p v = p ++ 61 ∷ v

abbrev mutual
  pub element_onto : Tree → List ℕ → List ℕ
  element_onto (chars b) rest = letter_onto b.lo (45 ∷ letter_onto b.hi rest)
  element_onto (named name at) rest = property_onto false name rest
  element_onto (valued p v at) rest = property_onto false (joined_name p v) rest
  element_onto (complement (named name at)) rest = property_onto true name rest
  element_onto (complement (valued p v at)) rest = property_onto true (joined_name p v) rest
  element_onto (complement (bracket steps)) rest = 91 ∷ 94 ∷ steps_onto steps rest
  element_onto (complement t) rest = rest
  element_onto (bracket steps) rest = 91 ∷ steps_onto steps rest

  pub steps_onto : Steps → List ℕ → List ℕ
  steps_onto no_steps rest = 93 ∷ rest
  steps_onto (step_then join t steps) rest = operator_onto join (element_onto t (steps_onto steps rest))

abbrev pub text_of : Tree → List ℕ
text_of t = element_onto t []

-- ---- trees that can be written

abbrev pub closing_of : List ℕ → List ℕ
closing_of name = if holds_brace name then 58 ∷ 93 ∷ [] else 125 ∷ []

pub record IsProperty (negated : Bool) (name : List ℕ) (make : ℕ → Tree) : Type 0 where
  pub closed : (rest : List ℕ) → found_at (closing_of name) (name ++ (closing_of name ++ rest)) ≡ Some (length name)
  pub spelled : (at : ℕ) → property_sign negated name at ≡ property (negated_by negated (make at))
  pub plain : holds_brace name ≡ true → negated ≡ false → begins_with 94 (name ++ 58 ∷ []) ≡ false

mutual
  pub data IsSetTree : ℕ → Tree → Type 0 where
    a_name : {n at : ℕ} {name : List ℕ} → IsProperty false name (named name) → IsSetTree n (named name at)
    a_value : {n at : ℕ} {p v : List ℕ} → IsProperty false (joined_name p v) (valued p v) → IsSetTree n (valued p v at)
    no_name : {n at : ℕ} {name : List ℕ} → IsProperty true name (named name) → IsSetTree n (complement (named name at))
    no_value : {n at : ℕ} {p v : List ℕ} → IsProperty true (joined_name p v) (valued p v) → IsSetTree n (complement (valued p v at))
    a_bracket : {n : ℕ} {steps : Steps} → AreSteps n nothing steps → IsSetTree (suc n) (bracket steps)
    no_bracket : {n : ℕ} {steps : Steps} → AreSteps n nothing steps → IsSetTree (suc n) (complement (bracket steps))

  pub data AreSteps : ℕ → Stand → Steps → Type 0 where
    none : {n : ℕ} {s : Stand} → AreSteps n s no_steps
    united : {n : ℕ} {s : Stand} {t : Tree} {steps : Steps} → IsSetTree n t → AreSteps n a_set steps → AreSteps n s (step_then Union t steps)
    met : {n : ℕ} {t : Tree} {steps : Steps} → IsSetTree n t → AreSteps n a_set steps → AreSteps n a_set (step_then Meet t steps)
    taken : {n : ℕ} {t : Tree} {steps : Steps} → IsSetTree n t → AreSteps n a_set steps → AreSteps n a_set (step_then Minus t steps)
    spelled : {n : ℕ} {s : Stand} {b : Bounds} {steps : Steps} → b.lo ≤ b.hi → b.hi < 1114112 → AreSteps n other steps → AreSteps n s (step_then Union (chars b) steps)

abbrev pub CanBeWritten : Tree → Type 0
CanBeWritten t = IsSetTree 64 t

-- ---- reading back

abbrev mutual
  pub unplaced : Tree → Tree
  unplaced (chars b) = chars b
  unplaced (named name at) = named name 0
  unplaced (valued p v at) = valued p v 0
  unplaced (complement t) = complement (unplaced t)
  unplaced (bracket steps) = bracket (unplaced_steps steps)

  pub unplaced_steps : Steps → Steps
  unplaced_steps no_steps = no_steps
  unplaced_steps (step_then join t steps) = step_then join (unplaced t) (unplaced_steps steps)

pub record ReadsAs (text : List ℕ) (t : Tree) : Type 0 where
  pub tree : Tree
  pub parsed : parsed text ≡ Ok tree
  pub same : unplaced tree ≡ unplaced t

abbrev pub TextsReadBack : Type 0
TextsReadBack = (t : Tree) → CanBeWritten t → IsUtf8 (text_of t) → ReadsAs (text_of t) t

abbrev pub ReadTreesCanBeWritten : Type 0
ReadTreesCanBeWritten = (text : List ℕ) (t : Tree) → parsed text ≡ Ok t → CanBeWritten t

abbrev pub ReadTreesAreText : Type 0
ReadTreesAreText = (text : List ℕ) (t : Tree) → parsed text ≡ Ok t → IsUtf8 (text_of t)

abbrev pub ReadTreesReadBack : Type 0
ReadTreesReadBack = (text : List ℕ) (t : Tree) → parsed text ≡ Ok t → ReadsAs (text_of t) t
