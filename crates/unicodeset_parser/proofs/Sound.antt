-- What is read, the grammar spells.
use Rattle.std.proofs.Common.{◌≡◌, ℕ, zero, suc, ◌+◌, ◌<◌, ◌≤◌, Bool, true, false, cond, List, [], ◌∷◌, length, Ok, Err, refl, sym, ap, subst, ◌∙◌, arith, append-nil, nat_lt, nat_le}
use Rattle.std.proofs.lemmas.Bool.Decides.{nat_tests}
use Rattle.unicodeset_parser.specs.Grammar.{Stand, nothing, a_set, other, range, step_of, IsLetter, spelled_out, first_hyphen, IsChars, one as one_letter, up_to, IsSet, a_property, a_bracket, IsBody, closed, joined, met, taken, spelled, IsText}
use Rattle.unicodeset_parser.specs.Machine as m
use Rattle.unicodeset_parser.specs.Machine.{Fault, Frame, Mode, within, before, after, first, behind_set, elsewhere, pending, lacking, due, fresh, put, range_of, run, then_run}
use Rattle.unicodeset_parser.specs.Tokens.{Token, placed, Sign, open_set, close, dash, meet, letter, property, wrong}
use Rattle.unicodeset_parser.specs.Trees.{Tree, Step, bracket_of}
use Rattle.unicodeset_parser.specs.declared.expr.Join.{Join}
use Rattle.unicodeset_parser.specs.declared.stop.SetRule.TheVariants.{S4, S6}
use Rattle.unicodeset_parser.specs.declared.expr.Join.TheVariants.{Union, Meet, Minus}
use Rattle.unicodeset_parser.proofs.Complete.{with_steps, closed_more, complete}

abbrev mode_of : Stand → Mode
mode_of nothing = first
mode_of a_set = behind_set
mode_of other = elsewhere

record SetFound (n : ℕ) (j : Join) (f : Frame) (a : List Frame) (ps : List Token) (e : ℕ) (tree : Tree) : Type 0 where
  t : Tree
  qs : List Token
  set : IsSet n ps t qs
  goes : run e (within behind_set (put j t f) a) qs ≡ Ok tree
  shorter : length qs < length ps

record BodyFound (n : ℕ) (s : Stand) (f : Frame) (a : List Frame) (ps : List Token) (e : ℕ) (tree : Tree) : Type 0 where
  steps : List Step
  rest : List Token
  body : IsBody n s ps steps rest
  goes : run e (m.closed (with_steps f steps) a) rest ≡ Ok tree
  shorter : length rest < length ps

abbrev Bodies : ℕ → ℕ → Tree → Type 0
Bodies k e tree = (n : ℕ) (s : Stand) (f : Frame) (a : List Frame) (ps : List Token) → length ps < k → n + suc (length a) ≡ 64 → run e (within (mode_of s) f a) ps ≡ Ok tree → BodyFound n s f a ps e tree

module _ (e : ℕ) (tree : Tree) where
  no_error : {A : Type 0} (x : Fault) → Err x ≡ Ok tree → A
  no_error x h = absurd (cc)

  bracket_in : (k n : ℕ) (j : Join) (f : Frame) (a : List Frame) (negated : Bool) (at : ℕ) (ps : List Token) → Bodies k e tree → length ps < k → n + suc (length a) ≡ 64 → (b : Bool) → nat_lt (length a) 63 ≡ b
      → then_run (cond b (Ok (within first (fresh negated j) (f ∷ a))) (Err (m.fault S6 at))) (λ next. run e next ps) ≡ Ok tree → SetFound n j f a (placed at (open_set negated) ∷ ps) e tree
  bracket_in k n j f a negated at ps ih lt size false is h = no_error (m.fault S6 at) h
  bracket_in k zero j f a negated at ps ih lt size true is h = let no : length a < 63 = grind (arith, nat_tests) in absurd (omega arith)
  bracket_in k (suc n) j f a negated at ps ih lt size true is h =
      let found = ih n nothing (fresh negated j) (f ∷ a) ps lt (omega arith) h in
      record { t = bracket_of negated found.steps; qs = found.rest; set = a_bracket found.body; goes = found.goes; shorter = omega (arith, found.shorter) }

  bracket_found : (k n : ℕ) (j : Join) (f : Frame) (a : List Frame) (negated : Bool) (at : ℕ) (ps : List Token) → Bodies k e tree → length ps < k → n + suc (length a) ≡ 64
      → then_run (m.opened at negated j f a) (λ next. run e next ps) ≡ Ok tree → SetFound n j f a (placed at (open_set negated) ∷ ps) e tree
  bracket_found k n j f a negated at ps ih lt size h = bracket_in k n j f a negated at ps ih lt size (nat_lt (length a) 63) refl h

  property_found : (n : ℕ) (j : Join) (f : Frame) (a : List Frame) (t : Tree) (at : ℕ) (ps : List Token) → run e (within behind_set (put j t f) a) ps ≡ Ok tree → SetFound n j f a (placed at (property t) ∷ ps) e tree
  property_found n j f a t at ps h = record { t = t; qs = ps; set = a_property; goes = h; shorter = omega arith }

  operand_found : (k n : ℕ) (j : Join) (f : Frame) (a : List Frame) (ps : List Token) → Bodies k e tree → length ps < k → n + suc (length a) ≡ 64 → run e (within (due j) f a) ps ≡ Ok tree → SetFound n j f a ps e tree
  operand_found k n j f a [] ih lt size h = absurd (cc)
  operand_found k n j f a (placed at (open_set negated) ∷ ps) ih lt size h = bracket_found k n j f a negated at ps ih (omega arith) size h
  operand_found k n j f a (placed at (property t) ∷ ps) ih lt size h = property_found n j f a t at ps h
  operand_found k n j f a (placed at close ∷ ps) ih lt size h = absurd (cc)
  operand_found k n j f a (placed at dash ∷ ps) ih lt size h = absurd (cc)
  operand_found k n j f a (placed at meet ∷ ps) ih lt size h = absurd (cc)
  operand_found k n j f a (placed at (letter c) ∷ ps) ih lt size h = absurd (cc)
  operand_found k n j f a (placed at (wrong w) ∷ ps) ih lt size h = absurd (cc)

  -- what a set leaves is the rest of the body
  behind : (k n : ℕ) (j : Join) (f : Frame) (a : List Frame) (ps : List Token) → Bodies k e tree → length ps < suc k → n + suc (length a) ≡ 64 → (found : SetFound n j f a ps e tree) → BodyFound n a_set (put j found.t f) a found.qs e tree
  behind k n j f a ps ih lt size found = ih n a_set (put j found.t f) a found.qs (omega (arith, found.shorter)) size found.goes

  joined_found : (k n : ℕ) (s : Stand) (f : Frame) (a : List Frame) (ps : List Token) → Bodies k e tree → length ps < suc k → n + suc (length a) ≡ 64 → SetFound n Union f a ps e tree → BodyFound n s f a ps e tree
  joined_found k n s f a ps ih lt size found =
      let b = behind k n Union f a ps ih lt size found in
      record { steps = step_of Union found.t ∷ b.steps; rest = b.rest; body = joined found.set b.body; goes = sym (closed_more e f a Union found.t b.steps b.rest) ∙ b.goes; shorter = omega (arith, found.shorter, b.shorter) }

  met_found : (k n : ℕ) (f : Frame) (a : List Frame) (at : ℕ) (ps : List Token) → Bodies k e tree → length ps < suc k → n + suc (length a) ≡ 64 → SetFound n Meet f a ps e tree → BodyFound n a_set f a (placed at meet ∷ ps) e tree
  met_found k n f a at ps ih lt size found =
      let b = behind k n Meet f a ps ih lt size found in
      record { steps = step_of Meet found.t ∷ b.steps; rest = b.rest; body = met found.set b.body; goes = sym (closed_more e f a Meet found.t b.steps b.rest) ∙ b.goes; shorter = omega (arith, found.shorter, b.shorter) }

  taken_found : (k n : ℕ) (f : Frame) (a : List Frame) (at : ℕ) (ps : List Token) → Bodies k e tree → length ps < suc k → n + suc (length a) ≡ 64 → SetFound n Minus f a ps e tree → BodyFound n a_set f a (placed at dash ∷ ps) e tree
  taken_found k n f a at ps ih lt size found =
      let b = behind k n Minus f a ps ih lt size found in
      record { steps = step_of Minus found.t ∷ b.steps; rest = b.rest; body = taken found.set b.body; goes = sym (closed_more e f a Minus found.t b.steps b.rest) ∙ b.goes; shorter = omega (arith, found.shorter, b.shorter) }

  close_found : (n : ℕ) (s : Stand) (f : Frame) (a : List Frame) (at : ℕ) (ps : List Token) → run e (m.closed f a) ps ≡ Ok tree → BodyFound n s f a (placed at close ∷ ps) e tree
  close_found n s f a at ps h = record { steps = []; rest = ps; body = closed; goes = ap (λ xs. run e (m.closed (record f { steps = xs }) a) ps) (append-nil f.steps) ∙ h; shorter = omega arith }

  chars_found : (k n : ℕ) (s : Stand) (f : Frame) (a : List Frame) (c d : ℕ) (ps qs : List Token) → IsChars s ps (range c d) qs → length qs < length ps → Bodies k e tree → length qs < k → n + suc (length a) ≡ 64
      → run e (within elsewhere (put Union (range_of c d) f) a) qs ≡ Ok tree → BodyFound n s f a ps e tree
  chars_found k n s f a c d ps qs cs less ih lt size h =
      let b = ih n other (put Union (range_of c d) f) a qs lt size h in
      record { steps = step_of Union (range_of c d) ∷ b.steps; rest = b.rest; body = spelled cs b.body; goes = sym (closed_more e f a Union (range_of c d) b.steps b.rest) ∙ b.goes; shorter = omega (arith, b.shorter) }

  range_in : (k n : ℕ) (s : Stand) (f : Frame) (a : List Frame) (p : Token) (c d at at' : ℕ) (ps : List Token) → IsLetter s p c → Bodies k e tree → length ps < k → n + suc (length a) ≡ 64 → (b : Bool) → nat_le c d ≡ b
      → then_run (cond b (Ok (within elsewhere (put Union (range_of c d) f) a)) (Err (m.fault S4 at'))) (λ next. run e next ps) ≡ Ok tree → BodyFound n s f a (p ∷ placed at dash ∷ placed at' (letter d) ∷ ps) e tree
  range_in k n s f a p c d at at' ps l ih lt size false is h = no_error (m.fault S4 at') h
  range_in k n s f a p c d at at' ps l ih lt size true is h =
      let le : c ≤ d = grind (arith, nat_tests) in
      chars_found k n s f a c d (p ∷ placed at dash ∷ placed at' (letter d) ∷ ps) ps (up_to l le) (omega arith) ih lt size h

  range_found : (k n : ℕ) (s : Stand) (f : Frame) (a : List Frame) (p : Token) (c at : ℕ) (ps : List Token) → IsLetter s p c → Bodies k e tree → length ps < k → n + suc (length a) ≡ 64
      → run e (within (lacking c) f a) ps ≡ Ok tree → BodyFound n s f a (p ∷ placed at dash ∷ ps) e tree
  range_found k n s f a p c at [] l ih lt size h = absurd (cc)
  range_found k n s f a p c at (placed at' (letter d) ∷ ps) l ih lt size h = range_in k n s f a p c d at at' ps l ih (omega arith) size (nat_le c d) refl h
  range_found k n s f a p c at (placed at' (open_set negated) ∷ ps) l ih lt size h = absurd (cc)
  range_found k n s f a p c at (placed at' (property t) ∷ ps) l ih lt size h = absurd (cc)
  range_found k n s f a p c at (placed at' close ∷ ps) l ih lt size h = absurd (cc)
  range_found k n s f a p c at (placed at' dash ∷ ps) l ih lt size h = absurd (cc)
  range_found k n s f a p c at (placed at' meet ∷ ps) l ih lt size h = absurd (cc)
  range_found k n s f a p c at (placed at' (wrong w) ∷ ps) l ih lt size h = absurd (cc)

  single : (k n : ℕ) (s : Stand) (f : Frame) (a : List Frame) (p : Token) (c : ℕ) (ps : List Token) → IsLetter s p c → Bodies k e tree → length ps < k → n + suc (length a) ≡ 64
      → run e (within elsewhere (put Union (range_of c c) f) a) ps ≡ Ok tree → BodyFound n s f a (p ∷ ps) e tree
  single k n s f a p c ps l ih lt size h = chars_found k n s f a c c (p ∷ ps) ps (one_letter l) (omega arith) ih lt size h

  letter_found : (k n : ℕ) (s : Stand) (f : Frame) (a : List Frame) (p : Token) (c : ℕ) (ps : List Token) → IsLetter s p c → Bodies k e tree → length ps < k → n + suc (length a) ≡ 64
      → run e (within (pending c) f a) ps ≡ Ok tree → BodyFound n s f a (p ∷ ps) e tree
  letter_found k n s f a p c [] l ih lt size h = absurd (cc)
  letter_found k n s f a p c (placed at dash ∷ ps) l ih lt size h = range_found k n s f a p c at ps l ih (omega arith) size h
  letter_found k n s f a p c (placed at (letter d) ∷ ps) l ih lt size h = single k n s f a p c (placed at (letter d) ∷ ps) l ih lt size h
  letter_found k n s f a p c (placed at (open_set negated) ∷ ps) l ih lt size h = single k n s f a p c (placed at (open_set negated) ∷ ps) l ih lt size h
  letter_found k n s f a p c (placed at (property t) ∷ ps) l ih lt size h = single k n s f a p c (placed at (property t) ∷ ps) l ih lt size h
  letter_found k n s f a p c (placed at close ∷ ps) l ih lt size h = single k n s f a p c (placed at close ∷ ps) l ih lt size h
  letter_found k n s f a p c (placed at meet ∷ ps) l ih lt size h = absurd (cc)
  letter_found k n s f a p c (placed at (wrong w) ∷ ps) l ih lt size h = absurd (cc)

  -- a token where an element is due, whatever stands before
  element_found : (k n : ℕ) (s : Stand) (f : Frame) (a : List Frame) (at : ℕ) (sign : Sign) (ps : List Token) → Bodies k e tree → length ps < k → n + suc (length a) ≡ 64
      → then_run (m.element e f a (placed at sign)) (λ next. run e next ps) ≡ Ok tree → BodyFound n s f a (placed at sign ∷ ps) e tree
  element_found k n s f a at (open_set negated) ps ih lt size h = joined_found k n s f a (placed at (open_set negated) ∷ ps) ih (omega arith) size (bracket_found k n Union f a negated at ps ih lt size h)
  element_found k n s f a at (property t) ps ih lt size h = joined_found k n s f a (placed at (property t) ∷ ps) ih (omega arith) size (property_found n Union f a t at ps h)
  element_found k n s f a at close ps ih lt size h = close_found n s f a at ps h
  element_found k n s f a at (letter c) ps ih lt size h = letter_found k n s f a (placed at (letter c)) c ps spelled_out ih lt size h
  element_found k n s f a at dash ps ih lt size h = absurd (cc)
  element_found k n s f a at meet ps ih lt size h = absurd (cc)
  element_found k n s f a at (wrong w) ps ih lt size h = absurd (cc)

  first_found : (k n : ℕ) (f : Frame) (a : List Frame) (at : ℕ) (sign : Sign) (ps : List Token) → Bodies k e tree → length ps < k → n + suc (length a) ≡ 64
      → then_run (m.first_element e f a (placed at sign)) (λ next. run e next ps) ≡ Ok tree → BodyFound n nothing f a (placed at sign ∷ ps) e tree
  first_found k n f a at dash ps ih lt size h = letter_found k n nothing f a (placed at dash) 45 ps first_hyphen ih lt size h
  first_found k n f a at (open_set negated) ps ih lt size h = element_found k n nothing f a at (open_set negated) ps ih lt size h
  first_found k n f a at (property t) ps ih lt size h = element_found k n nothing f a at (property t) ps ih lt size h
  first_found k n f a at close ps ih lt size h = element_found k n nothing f a at close ps ih lt size h
  first_found k n f a at (letter c) ps ih lt size h = element_found k n nothing f a at (letter c) ps ih lt size h
  first_found k n f a at meet ps ih lt size h = absurd (cc)
  first_found k n f a at (wrong w) ps ih lt size h = absurd (cc)

  operator_found : (k n : ℕ) (f : Frame) (a : List Frame) (at : ℕ) (sign : Sign) (ps : List Token) → Bodies k e tree → length ps < k → n + suc (length a) ≡ 64
      → then_run (m.operator e f a (placed at sign)) (λ next. run e next ps) ≡ Ok tree → BodyFound n a_set f a (placed at sign ∷ ps) e tree
  operator_found k n f a at dash ps ih lt size h = taken_found k n f a at ps ih (omega arith) size (operand_found k n Minus f a ps ih lt size h)
  operator_found k n f a at meet ps ih lt size h = met_found k n f a at ps ih (omega arith) size (operand_found k n Meet f a ps ih lt size h)
  operator_found k n f a at (open_set negated) ps ih lt size h = element_found k n a_set f a at (open_set negated) ps ih lt size h
  operator_found k n f a at (property t) ps ih lt size h = element_found k n a_set f a at (property t) ps ih lt size h
  operator_found k n f a at close ps ih lt size h = element_found k n a_set f a at close ps ih lt size h
  operator_found k n f a at (letter c) ps ih lt size h = element_found k n a_set f a at (letter c) ps ih lt size h
  operator_found k n f a at (wrong w) ps ih lt size h = absurd (cc)

  bodies : (k : ℕ) → Bodies k e tree
  bodies zero n s f a ps lt size h = absurd (omega arith)
  bodies (suc k) n s f a [] lt size h = absurd (cc)
  bodies (suc k) n nothing f a (placed at sign ∷ ps) lt size h = first_found k n f a at sign ps (bodies k) (omega arith) size h
  bodies (suc k) n a_set f a (placed at sign ∷ ps) lt size h = operator_found k n f a at sign ps (bodies k) (omega arith) size h
  bodies (suc k) n other f a (placed at sign ∷ ps) lt size h = element_found k n other f a at sign ps (bodies k) (omega arith) size h

  ends : (t : Tree) (ps : List Token) → run e (after t) ps ≡ Ok tree → (ps ≡ []) × (t ≡ tree)
  ends t [] h = (refl, cc)
  ends t (placed at sign ∷ ps) h = absurd (cc)

  whole : (t : Tree) (ps qs : List Token) → IsSet 64 ps t qs → run e (after t) qs ≡ Ok tree → IsText ps tree
  whole t ps qs h goes =
      let end = ends t qs goes in
      let P : List Token → Type 0 = λ rest. IsSet 64 ps t rest in
      let Q : Tree → Type 0 = λ u. IsSet 64 ps u [] in
      subst Q end.1 (subst P end.0 h)

  open_text : (negated : Bool) (at : ℕ) (ps : List Token) → run e (within first (fresh negated Union) []) ps ≡ Ok tree → IsText (placed at (open_set negated) ∷ ps) tree
  open_text negated at ps h =
      let found = bodies (suc (length ps)) 63 nothing (fresh negated Union) [] ps (omega arith) refl h in
      whole (bracket_of negated found.steps) (placed at (open_set negated) ∷ ps) found.rest (a_bracket found.body) found.goes

pub sound : (e : ℕ) (ps : List Token) (t : Tree) → run e before ps ≡ Ok t → IsText ps t
sound e [] t h = absurd (cc)
sound e (placed at (open_set negated) ∷ ps) t h = open_text e t negated at ps h
sound e (placed at (property u) ∷ ps) t h = whole e t u (placed at (property u) ∷ ps) ps a_property h
sound e (placed at close ∷ ps) t h = absurd (cc)
sound e (placed at dash ∷ ps) t h = absurd (cc)
sound e (placed at meet ∷ ps) t h = absurd (cc)
sound e (placed at (letter c) ∷ ps) t h = absurd (cc)
sound e (placed at (wrong w) ∷ ps) t h = absurd (cc)

pub one : (ps : List Token) (t u : Tree) → IsText ps t → IsText ps u → t ≡ u
one ps t u h k = let a = complete 0 ps t h in let b = complete 0 ps u k in cc
