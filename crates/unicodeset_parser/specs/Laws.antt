-- Laws of the grammar.
-- ReadsExactly               tokens are read as a tree exactly where the grammar spells it, whatever the length of the text
-- OneTree                    no tokens spell two trees
-- Begins ps                  some text of the grammar begins with these tokens
-- place_of p                 where a token begins
-- EndsEarly p                what the end of the text cuts: a `\` alone, or a property that is never closed
-- StopsAt e p fault          the fault stands where the token begins, or, where the end of the text cuts the token, at the end, as S2
-- FirstFault e ps fault      the tokens are no text. Either the tokens before some token begin a text, and no text begins with it too, and the
--                            fault stands there; or all of them begin a text, and the fault is S2 at the end
-- FaultsAreFirst             what is refused has its first fault
use Rattle.std.specs.Prelude.{◌≡◌, ◌↔◌, ◌⊎◌, ℕ, List, [], ◌∷◌, ◌++◌, Ok, Err}
use Rattle.unicodeset_parser.specs.Grammar.{IsText}
use Rattle.unicodeset_parser.specs.Machine.{Fault, fault, before, run}
use Rattle.unicodeset_parser.specs.Tokens.{Token, placed, wrong}
use Rattle.unicodeset_parser.specs.Trees.{Tree}
use Rattle.unicodeset_parser.specs.declared.stop.SetRule.TheVariants.{S2}
use Rattle.unicodeset_parser.specs.declared.token.BadToken.TheVariants.{Unclosed, Cut}

abbrev pub ReadsExactly : Type 0
ReadsExactly = (e : ℕ) (ps : List Token) (t : Tree) → (run e before ps ≡ Ok t) ↔ IsText ps t

abbrev pub OneTree : Type 0
OneTree = (ps : List Token) (t u : Tree) → IsText ps t → IsText ps u → t ≡ u

pub record Begins (ps : List Token) : Type 0 where
  pub more : List Token
  pub tree : Tree
  pub text : IsText (ps ++ more) tree

abbrev pub place_of : Token → ℕ
place_of (placed at sign) = at

abbrev pub EndsEarly : Token → Type 0
EndsEarly (placed at (wrong Unclosed)) = Unit
EndsEarly (placed at (wrong Cut)) = Unit
EndsEarly _ = ⊥

abbrev pub StopsAt : ℕ → Token → Fault → Type 0
StopsAt e p f = (f.at ≡ place_of p) ⊎ (EndsEarly p × (f ≡ fault S2 e))

pub record StopsIn (e : ℕ) (ps : List Token) (f : Fault) : Type 0 where
  pub front : List Token
  pub token : Token
  pub rest : List Token
  pub cut : ps ≡ front ++ token ∷ rest
  pub begins : Begins front
  pub ends : ¬ Begins (front ++ token ∷ [])
  pub stands : StopsAt e token f

pub record StopsBehind (e : ℕ) (ps : List Token) (f : Fault) : Type 0 where
  pub begins : Begins ps
  pub stands : f ≡ fault S2 e

abbrev pub FirstFault : ℕ → List Token → Fault → Type 0
FirstFault e ps f = StopsIn e ps f ⊎ StopsBehind e ps f

abbrev pub FaultsAreFirst : Type 0
FaultsAreFirst = (e : ℕ) (ps : List Token) (f : Fault) → run e before ps ≡ Err f → FirstFault e ps f
