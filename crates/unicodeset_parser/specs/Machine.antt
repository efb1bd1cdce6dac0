-- Reading tokens from left to right. UTS #35, "Unicode Sets".
-- Fault             the rule that a text breaks, and the place
-- Frame             a bracket set that is open: whether its complement is meant, how it is joined to the one around it, its steps so far
-- Mode              what may follow in the innermost bracket set
--   first             its first element
--   behind_set        an element, or an operator, since a set stands before
--   elsewhere         an element
--   pending c         the same, or a `-` that makes a range of c, which stands before
--   lacking c         the last character of a range that begins with c
--   due join          a set, behind an operator
-- State             how far a text is read
--   before            nothing stands yet
--   within mode frame around   in a bracket set; around it are others, from the inside out
--   after t           the whole set is read
use Rattle.std.specs.Prelude.{ℕ, Bool, nat_lt, nat_le, List, [], ◌∷◌, ◌++◌, length, Result, Ok, Err, if◌then◌else◌}
use Rattle.unicodeset_parser.specs.Trees.{Tree, chars, Step, bracket_of}
use Rattle.unicodeset_parser.specs.Tokens.{open_set, close, dash, meet, letter, property, wrong, Token, placed}
use Rattle.unicodeset_parser.specs.declared.expr.Join.{Join}
use Rattle.unicodeset_parser.specs.declared.expr.Join.TheVariants.{Union, Meet, Minus}
use Rattle.unicodeset_parser.specs.declared.stop.SetRule.{SetRule}
use Rattle.unicodeset_parser.specs.declared.stop.SetRule.TheVariants.{S2, S3, S4, S5, S6, S7}
use Rattle.unicodeset_parser.specs.declared.token.BadToken.{BadToken}
use Rattle.unicodeset_parser.specs.declared.token.BadToken.TheVariants.{Unclosed, RefusedName, BadEscape, CharacterName, Special, Cut, Other}

pub record Fault : Type 0 where
  pub rule : SetRule
  pub at : ℕ

abbrev pub fault : SetRule → ℕ → Fault
fault rule at = record { rule = rule; at = at }

pub record Frame : Type 0 where
  pub negated : Bool
  pub join : Join
  pub steps : List Step

pub data Mode : Type 0 where
  first : Mode
  behind_set : Mode
  elsewhere : Mode
  pending : ℕ → Mode
  lacking : ℕ → Mode
  due : Join → Mode

pub data State : Type 0 where
  before : State
  within : Mode → Frame → List Frame → State
  after : Tree → State

-- ---- the rule that a wrong token breaks, by the place where it stands; e is the length of the text

-- where a set is due: at the beginning, and behind an operator
abbrev pub set_fault : ℕ → ℕ → BadToken → Fault
set_fault e at Unclosed = fault S2 e
set_fault e at Cut = fault S2 e
set_fault e at RefusedName = fault S7 at
set_fault e at CharacterName = fault S7 at
set_fault e at BadEscape = fault S5 at
set_fault e at Special = fault S3 at
set_fault e at Other = fault S3 at

-- where an element is due
abbrev pub element_fault : ℕ → ℕ → BadToken → Fault
element_fault e at Special = fault S7 at
element_fault e at w = set_fault e at w

-- where the last character of a range is due: no set may stand here, so that no name is looked at
abbrev pub range_fault : ℕ → ℕ → BadToken → Fault
range_fault e at Cut = fault S2 e
range_fault e at CharacterName = fault S7 at
range_fault e at BadEscape = fault S5 at
range_fault e at w = fault S3 at

-- behind the whole set, where nothing may stand, so that no name is looked at
abbrev pub late_fault : ℕ → BadToken → Fault
late_fault at CharacterName = fault S7 at
late_fault at BadEscape = fault S5 at
late_fault at w = fault S3 at

abbrev pub too_late : Token → Fault
too_late (placed at (wrong w)) = late_fault at w
too_late (placed at sign) = fault S3 at

-- ---- what a token does

abbrev pub put : Join → Tree → Frame → Frame
put join tree frame = record frame { steps = frame.steps ++ (record { join = join; tree = tree }) ∷ [] }

abbrev pub range_of : ℕ → ℕ → Tree
range_of lo hi = chars (record { lo = lo; hi = hi })

abbrev pub fresh : Bool → Join → Frame
fresh negated join = record { negated = negated; join = join; steps = [] }

abbrev pub opened : ℕ → Bool → Join → Frame → List Frame → Result State Fault
opened at negated join frame around = if nat_lt (length around) 63 then Ok (within first (fresh negated join) (frame ∷ around)) else Err (fault S6 at)

abbrev pub closed : Frame → List Frame → State
closed frame [] = after (bracket_of frame.negated frame.steps)
closed frame (outer ∷ around) = within behind_set (put frame.join (bracket_of frame.negated frame.steps) outer) around

abbrev pub begun : ℕ → Token → Result State Fault
begun e (placed at (open_set negated)) = Ok (within first (fresh negated Union) [])
begun e (placed at (property tree)) = Ok (after tree)
begun e (placed at (wrong w)) = Err (set_fault e at w)
begun e (placed at sign) = Err (fault S3 at)

abbrev pub operand : Join → ℕ → Frame → List Frame → Token → Result State Fault
operand join e frame around (placed at (open_set negated)) = opened at negated join frame around
operand join e frame around (placed at (property tree)) = Ok (within behind_set (put join tree frame) around)
operand join e frame around (placed at (wrong w)) = Err (set_fault e at w)
operand join e frame around (placed at sign) = Err (fault S3 at)

abbrev pub element : ℕ → Frame → List Frame → Token → Result State Fault
element e frame around (placed at (open_set negated)) = opened at negated Union frame around
element e frame around (placed at (property tree)) = Ok (within behind_set (put Union tree frame) around)
element e frame around (placed at close) = Ok (closed frame around)
element e frame around (placed at (letter c)) = Ok (within (pending c) frame around)
element e frame around (placed at (wrong w)) = Err (element_fault e at w)
element e frame around (placed at sign) = Err (fault S3 at)

abbrev pub first_element : ℕ → Frame → List Frame → Token → Result State Fault
first_element e frame around (placed at dash) = Ok (within (pending 45) frame around)
first_element e frame around (placed at sign) = element e frame around (placed at sign)

abbrev pub operator : ℕ → Frame → List Frame → Token → Result State Fault
operator e frame around (placed at dash) = Ok (within (due Minus) frame around)
operator e frame around (placed at meet) = Ok (within (due Meet) frame around)
operator e frame around (placed at sign) = element e frame around (placed at sign)

abbrev pub behind_letter : ℕ → ℕ → Frame → List Frame → Token → Result State Fault
behind_letter c e frame around (placed at dash) = Ok (within (lacking c) frame around)
behind_letter c e frame around (placed at sign) = element e (put Union (range_of c c) frame) around (placed at sign)

abbrev pub range_end : ℕ → ℕ → Frame → List Frame → Token → Result State Fault
range_end c e frame around (placed at (letter d)) = if nat_le c d then Ok (within elsewhere (put Union (range_of c d) frame) around) else Err (fault S4 at)
range_end c e frame around (placed at (wrong w)) = Err (range_fault e at w)
range_end c e frame around (placed at sign) = Err (fault S3 at)

abbrev pub inside : Mode → ℕ → Frame → List Frame → Token → Result State Fault
inside first e frame around p = first_element e frame around p
inside behind_set e frame around p = operator e frame around p
inside elsewhere e frame around p = element e frame around p
inside (pending c) e frame around p = behind_letter c e frame around p
inside (lacking c) e frame around p = range_end c e frame around p
inside (due join) e frame around p = operand join e frame around p

abbrev pub step : ℕ → State → Token → Result State Fault
step e before p = begun e p
step e (within mode frame around) p = inside mode e frame around p
step e (after tree) p = Err (too_late p)

-- at the end of the text
abbrev pub finished : ℕ → State → Result Tree Fault
finished e before = Err (fault S2 e)
finished e (within mode frame around) = Err (fault S2 e)
finished e (after tree) = Ok tree

abbrev pub then_run : Result State Fault → (State → Result Tree Fault) → Result Tree Fault
then_run (Ok next) go = go next
then_run (Err f) go = Err f

abbrev pub run : ℕ → State → List Token → Result Tree Fault
run e state [] = finished e state
run e state (p ∷ ps) = then_run (step e state p) (λ next. run e next ps)
