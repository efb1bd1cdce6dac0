-- The grammar of UnicodeSets. UTS #35, "Unicode Sets".
--
-- The grammar goes over the tokens of a text. Each of its relations says what stands at the front of them, and which tokens stand behind.
-- Stand                       what stands before in a bracket set: nothing; a set; another element
-- IsLetter s p c              the token is the character c: an escape, a character that stands for itself, or a `-` that stands first
-- IsChars s ps b rest         a character, or a range whose last character is not less than its first; b are its characters
-- IsSet n ps t rest           a set in which at most n bracket sets are open at once: a property, a bracket set or the complement of one
-- IsBody n s ps steps rest    what is left of a bracket set, with its `]`; the sets in it are IsSet n
--   closed                      nothing is left but the `]`
--   joined                      a set, in union
--   met, taken                  `&` and a set, `-` and a set: both behind a set alone
--   spelled                     a character or a range, in union
-- IsText ps t                 the tokens are one set, with at most 64 bracket sets open at once
use Rattle.std.specs.Prelude.{ℕ, suc, ◌≤◌, Bool, List, [], ◌∷◌}
use Rattle.ucd_points.specs.Bounds.{Bounds}
use Rattle.unicodeset_parser.specs.Trees.{Tree, chars, Step, bracket_of}
use Rattle.unicodeset_parser.specs.Tokens.{open_set, close, dash, meet, letter, property, Token, placed}
use Rattle.unicodeset_parser.specs.declared.expr.Join.{Join}
use Rattle.unicodeset_parser.specs.declared.expr.Join.TheVariants.{Union, Meet, Minus}

pub data Stand : Type 0 where
  nothing : Stand
  a_set : Stand
  other : Stand

abbrev pub range : ℕ → ℕ → Bounds
range lo hi = record { lo = lo; hi = hi }

abbrev pub step_of : Join → Tree → Step
step_of join tree = record { join = join; tree = tree }

pub data IsLetter : Stand → Token → ℕ → Type 0 where
  spelled_out : {s : Stand} {at c : ℕ} → IsLetter s (placed at (letter c)) c
  first_hyphen : {at : ℕ} → IsLetter nothing (placed at dash) 45

pub data IsChars : Stand → List Token → Bounds → List Token → Type 0 where
  one : {s : Stand} {p : Token} {c : ℕ} {ps : List Token} → IsLetter s p c → IsChars s (p ∷ ps) (range c c) ps
  up_to : {s : Stand} {p : Token} {c d at at' : ℕ} {ps : List Token} → IsLetter s p c → c ≤ d → IsChars s (p ∷ placed at dash ∷ placed at' (letter d) ∷ ps) (range c d) ps

mutual
  pub data IsSet : ℕ → List Token → Tree → List Token → Type 0 where
    a_property : {n at : ℕ} {t : Tree} {ps : List Token} → IsSet n (placed at (property t) ∷ ps) t ps
    a_bracket : {n at : ℕ} {negated : Bool} {ps rest : List Token} {steps : List Step} → IsBody n nothing ps steps rest → IsSet (suc n) (placed at (open_set negated) ∷ ps) (bracket_of negated steps) rest

  pub data IsBody : ℕ → Stand → List Token → List Step → List Token → Type 0 where
    closed : {n at : ℕ} {s : Stand} {ps : List Token} → IsBody n s (placed at close ∷ ps) [] ps
    joined : {n : ℕ} {s : Stand} {ps qs rest : List Token} {t : Tree} {steps : List Step} → IsSet n ps t qs → IsBody n a_set qs steps rest → IsBody n s ps (step_of Union t ∷ steps) rest
    met : {n at : ℕ} {ps qs rest : List Token} {t : Tree} {steps : List Step} → IsSet n ps t qs → IsBody n a_set qs steps rest → IsBody n a_set (placed at meet ∷ ps) (step_of Meet t ∷ steps) rest
    taken : {n at : ℕ} {ps qs rest : List Token} {t : Tree} {steps : List Step} → IsSet n ps t qs → IsBody n a_set qs steps rest → IsBody n a_set (placed at dash ∷ ps) (step_of Minus t ∷ steps) rest
    spelled : {n : ℕ} {s : Stand} {ps qs rest : List Token} {b : Bounds} {steps : List Step} → IsChars s ps b qs → IsBody n other qs steps rest → IsBody n s ps (step_of Union (chars b) ∷ steps) rest

abbrev pub IsText : List Token → Tree → Type 0
IsText ps t = IsSet 64 ps t []
