-- Which rule a fault is, by what may stand behind the tokens before it. UTS #35, "Unicode Sets".
-- MaySet ps            a set may stand behind these tokens: some text begins with them and a property
-- MayLetter ps         a character may: some text begins with them and a character
-- Chooses s x y f      f is x where s holds, and y where it does not
-- Names e ps p f       f is the fault of the token p where ps stand before it, in a text of e bytes that no text begins with up to p
--   a character          S4 where one may stand: it is less than the first of its range; else S3
--   `[`, `[^`            S6 where a set may stand: 64 bracket sets are open; else S3
--   a refused name       S7 where a set may stand; else S3, so that no name is looked at
--   `{`, `$`             S7 where an element may stand, a set and a character; else S3
--   an unclosed property S2 at the end where a set may stand; else S3
--   a `\` at the end     S2 at the end where a set or a character may stand; else S3
--   a bad escape, `\N`   S5 and S7 in every place
--   any other            S3
-- NamedIn e ps f       the tokens before some token begin a text, no text begins with it too, and f is its fault
-- FaultsAreNamed       what is refused is named so, or begins a text, and is S2 at the end
use Rattle.std.specs.Prelude.{◌≡◌, ◌⊎◌, ℕ, List, [], ◌∷◌, ◌++◌, Err}
use Rattle.unicodeset_parser.specs.Laws.{Begins, StopsBehind}
use Rattle.unicodeset_parser.specs.Machine.{Fault, fault, before, run}
use Rattle.unicodeset_parser.specs.Tokens.{Token, placed, open_set, letter, property, wrong}
use Rattle.unicodeset_parser.specs.Trees.{Tree}
use Rattle.unicodeset_parser.specs.declared.stop.SetRule.TheVariants.{S2, S3, S4, S5, S6, S7}
use Rattle.unicodeset_parser.specs.declared.token.BadToken.TheVariants.{Unclosed, RefusedName, BadEscape, CharacterName, Special, Cut}

abbrev pub MaySet : List Token → Type 0
MaySet ps = (t : Tree) × Begins (ps ++ placed 0 (property t) ∷ [])

abbrev pub MayLetter : List Token → Type 0
MayLetter ps = (c : ℕ) × Begins (ps ++ placed 0 (letter c) ∷ [])

abbrev pub Chooses : Type 0 → Fault → Fault → Fault → Type 0
Chooses s x y f = s × (f ≡ x) ⊎ (¬ s) × (f ≡ y)

abbrev pub Names : ℕ → List Token → Token → Fault → Type 0
Names e ps (placed at (letter c)) f = Chooses (MayLetter ps) (fault S4 at) (fault S3 at) f
Names e ps (placed at (open_set negated)) f = Chooses (MaySet ps) (fault S6 at) (fault S3 at) f
Names e ps (placed at (wrong RefusedName)) f = Chooses (MaySet ps) (fault S7 at) (fault S3 at) f
Names e ps (placed at (wrong Special)) f = Chooses (MaySet ps × MayLetter ps) (fault S7 at) (fault S3 at) f
Names e ps (placed at (wrong Unclosed)) f = Chooses (MaySet ps) (fault S2 e) (fault S3 at) f
Names e ps (placed at (wrong Cut)) f = Chooses (MaySet ps ⊎ MayLetter ps) (fault S2 e) (fault S3 at) f
Names e ps (placed at (wrong BadEscape)) f = f ≡ fault S5 at
Names e ps (placed at (wrong CharacterName)) f = f ≡ fault S7 at
Names e ps (placed at sign) f = f ≡ fault S3 at

pub record NamedIn (e : ℕ) (ps : List Token) (f : Fault) : Type 0 where
  pub front : List Token
  pub token : Token
  pub rest : List Token
  pub cut : ps ≡ front ++ token ∷ rest
  pub begins : Begins front
  pub ends : ¬ Begins (front ++ token ∷ [])
  pub names : Names e front token f

abbrev pub FaultsAreNamed : Type 0
FaultsAreNamed = (e : ℕ) (ps : List Token) (f : Fault) → run e before ps ≡ Err f → NamedIn e ps f ⊎ StopsBehind e ps f
