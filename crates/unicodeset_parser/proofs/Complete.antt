-- What the grammar spells is read.
use Rattle.std.proofs.Common.{◌≡◌, ℕ, suc, ◌+◌, ◌<◌, ◌≤◌, Bool, true, List, [], ◌∷◌, ◌++◌, length, Ok, refl, sym, ap, ◌∙◌, arith, append_assoc, append-nil, nat_lt, nat_le}
use Rattle.std.proofs.lemmas.Bool.Decides.{nat_tests}
use Rattle.ucd_points.specs.Bounds.{Bounds}
use Rattle.unicodeset_parser.specs.Grammar.{Stand, nothing, a_set, other, step_of, IsLetter, spelled_out, first_hyphen, IsChars, one, up_to, IsSet, a_property, a_bracket, IsBody, closed, joined, met, taken, spelled, IsText}
use Rattle.unicodeset_parser.specs.Machine as m
use Rattle.unicodeset_parser.specs.Machine.{State, Frame, within, before, after, first, behind_set, elsewhere, pending, lacking, due, fresh, put, range_of, step, run, then_run}
use Rattle.unicodeset_parser.specs.Tokens.{Token, placed, open_set, close, dash, meet, letter, property}
use Rattle.unicodeset_parser.specs.Trees.{Tree, chars, Step, bracket_of}
use Rattle.unicodeset_parser.specs.declared.expr.Join.{Join}
use Rattle.unicodeset_parser.specs.declared.expr.Join.TheVariants.{Union, Meet, Minus}

-- where a set goes: it is all, or it is joined to an open bracket set
pub data Host : Type 0 where
  top : Host
  host : Join → Frame → List Frame → Host

abbrev pub arrived : Host → Tree → State
arrived top t = after t
arrived (host j f a) t = within behind_set (put j t f) a

abbrev pub frames : Host → List Frame
frames top = []
frames (host j f a) = f ∷ a

abbrev pub join_of : Host → Join
join_of top = Union
join_of (host j f a) = j

pub record Takes (e : ℕ) (st : State) (h : Host) : Type 0 where
  pub of_property : (at : ℕ) (t : Tree) → step e st (placed at (property t)) ≡ Ok (arrived h t)
  pub of_open : (at : ℕ) (negated : Bool) → length (frames h) < 64 → step e st (placed at (open_set negated)) ≡ Ok (within first (fresh negated (join_of h)) (frames h))

pub data Ready : Stand → State → Frame → List Frame → Type 0 where
  at_first : {f : Frame} {a : List Frame} → Ready nothing (within first f a) f a
  at_set : {f : Frame} {a : List Frame} → Ready a_set (within behind_set f a) f a
  at_other : {f : Frame} {a : List Frame} → Ready other (within elsewhere f a) f a
  at_letter : {c : ℕ} {f : Frame} {a : List Frame} → Ready other (within (pending c) f a) (put Union (range_of c c) f) a

top_takes : (e : ℕ) → Takes e before top
top_takes e = record { of_property = λ at t. refl; of_open = λ at negated lt. refl }

opened_is : (at : ℕ) (negated : Bool) (j : Join) (f : Frame) (a : List Frame) → suc (length a) < 64 → m.opened at negated j f a ≡ Ok (within first (fresh negated j) (f ∷ a))
opened_is at negated j f a lt = let e : nat_lt (length a) 63 ≡ true = grind (arith, nat_tests) in rw e refl

due_takes : (e : ℕ) (j : Join) (f : Frame) (a : List Frame) → Takes e (within (due j) f a) (host j f a)
due_takes e j f a = record { of_property = λ at t. refl; of_open = λ at negated lt. opened_is at negated j f a lt }

ready_takes : (e : ℕ) {s : Stand} {st : State} {f : Frame} {a : List Frame} → Ready s st f a → Takes e st (host Union f a)
ready_takes e (at_first {f} {a}) = record { of_property = λ at t. refl; of_open = λ at negated lt. opened_is at negated Union f a lt }
ready_takes e (at_set {f} {a}) = record { of_property = λ at t. refl; of_open = λ at negated lt. opened_is at negated Union f a lt }
ready_takes e (at_other {f} {a}) = record { of_property = λ at t. refl; of_open = λ at negated lt. opened_is at negated Union f a lt }
ready_takes e (at_letter {c} {f} {a}) = record { of_property = λ at t. refl; of_open = λ at negated lt. opened_is at negated Union (put Union (range_of c c) f) a lt }

ready_closes : (e at : ℕ) {s : Stand} {st : State} {f : Frame} {a : List Frame} → Ready s st f a → step e st (placed at close) ≡ Ok (m.closed f a)
ready_closes e at at_first = refl
ready_closes e at at_set = refl
ready_closes e at at_other = refl
ready_closes e at at_letter = refl

spelled_steps : (e at c : ℕ) {s : Stand} {st : State} {f : Frame} {a : List Frame} → Ready s st f a → step e st (placed at (letter c)) ≡ Ok (within (pending c) f a)
spelled_steps e at c at_first = refl
spelled_steps e at c at_set = refl
spelled_steps e at c at_other = refl
spelled_steps e at c at_letter = refl

hyphen_steps : (e at : ℕ) {st : State} {f : Frame} {a : List Frame} → Ready nothing st f a → step e st (placed at dash) ≡ Ok (within (pending 45) f a)
hyphen_steps e at at_first = refl

letter_steps : (e : ℕ) {s : Stand} {p : Token} {c : ℕ} → IsLetter s p c → {st : State} {f : Frame} {a : List Frame} → Ready s st f a → step e st p ≡ Ok (within (pending c) f a)
letter_steps e (spelled_out {s} {at} {c}) r = spelled_steps e at c r
letter_steps e (first_hyphen {at}) r = hyphen_steps e at r

-- one step of a run
pub runs : (e : ℕ) (st next : State) (p : Token) (ps : List Token) → step e st p ≡ Ok next → run e st (p ∷ ps) ≡ run e next ps
runs e st next p ps h = ap (λ r. then_run r (λ s. run e s ps)) h

pub record CharsRead (e : ℕ) (st : State) (ps : List Token) (b : Bounds) (qs : List Token) (f : Frame) (a : List Frame) : Type 0 where
  pub next : State
  pub ready : Ready other next (put Union (chars b) f) a
  pub goes : run e st ps ≡ run e next qs

chars_read : (e : ℕ) {s : Stand} {ps : List Token} {b : Bounds} {qs : List Token} → IsChars s ps b qs → (st : State) (f : Frame) (a : List Frame) → Ready s st f a → CharsRead e st ps b qs f a
chars_read e (one {s} {p} {c} {ps} l) st f a r = record { next = within (pending c) f a; ready = at_letter; goes = runs e st (within (pending c) f a) p ps (letter_steps e l r) }
chars_read e (up_to {s} {p} {c} {d} {at} {at'} {ps} l le) st f a r =
    let is : nat_le c d ≡ true = grind (arith, nat_tests) in
    let last : step e (within (lacking c) f a) (placed at' (letter d)) ≡ Ok (within elsewhere (put Union (range_of c d) f) a) = rw is refl in
    record {
      next = within elsewhere (put Union (range_of c d) f) a;
      ready = at_other;
      goes = runs e st (within (pending c) f a) p (placed at dash ∷ placed at' (letter d) ∷ ps) (letter_steps e l r) ∙ runs e (within (lacking c) f a) _ (placed at' (letter d)) ps last;
    }

abbrev pub with_steps : Frame → List Step → Frame
with_steps f steps = record f { steps = f.steps ++ steps }

with_none : (f : Frame) → f ≡ with_steps f []
with_none f = ap (λ ps. record f { steps = ps }) (sym (append-nil f.steps))

with_more : (f : Frame) (j : Join) (t : Tree) (steps : List Step) → with_steps (put j t f) steps ≡ with_steps f (step_of j t ∷ steps)
with_more f j t steps = ap (λ ps. record f { steps = ps }) (append_assoc f.steps (step_of j t ∷ []) steps)

pub closed_more : (e : ℕ) (f : Frame) (a : List Frame) (j : Join) (t : Tree) (steps : List Step) (rest : List Token) → run e (m.closed (with_steps (put j t f) steps) a) rest ≡ run e (m.closed (with_steps f (step_of j t ∷ steps)) a) rest
closed_more e f a j t steps rest = ap (λ g. run e (m.closed g a) rest) (with_more f j t steps)

closes_host : (h : Host) (negated : Bool) (steps : List Step) → m.closed (with_steps (fresh negated (join_of h)) steps) (frames h) ≡ arrived h (bracket_of negated steps)
closes_host top negated steps = refl
closes_host (host j f a) negated steps = refl

operator_runs : (e at : ℕ) {st : State} {f : Frame} {a : List Frame} → Ready a_set st f a → (step e st (placed at meet) ≡ Ok (within (due Meet) f a)) × (step e st (placed at dash) ≡ Ok (within (due Minus) f a))
operator_runs e at at_set = (refl, refl)

mutual
  set_read : (e : ℕ) {n : ℕ} {ps : List Token} {t : Tree} {rest : List Token} → IsSet n ps t rest → (st : State) (h : Host) → Takes e st h → n + length (frames h) ≤ 64 → run e st ps ≡ run e (arrived h t) rest
  set_read e (a_property {n} {at} {t} {ps}) st h k le = runs e st (arrived h t) (placed at (property t)) ps (k.of_property at t)
  set_read e (a_bracket {n} {at} {negated} {ps} {rest} {steps} body) st h k le =
      let inner = within first (fresh negated (join_of h)) (frames h) in
      runs e st inner (placed at (open_set negated)) ps (k.of_open at negated (omega arith))
      ∙ body_read e body inner (fresh negated (join_of h)) (frames h) at_first (omega arith)
      ∙ ap (λ s. run e s rest) (closes_host h negated steps)

  body_read : (e : ℕ) {n : ℕ} {s : Stand} {ps : List Token} {steps : List Step} {rest : List Token} → IsBody n s ps steps rest → (st : State) (f : Frame) (a : List Frame) → Ready s st f a → n + suc (length a) ≤ 64 → run e st ps ≡ run e (m.closed (with_steps f steps) a) rest
  body_read e (closed {n} {at} {s} {ps}) st f a r le = runs e st (m.closed f a) (placed at close) ps (ready_closes e at r) ∙ ap (λ g. run e (m.closed g a) ps) (with_none f)
  body_read e (joined {n} {s} {ps} {qs} {rest} {t} {steps} set body) st f a r le =
      set_read e set st (host Union f a) (ready_takes e r) (omega arith)
      ∙ body_read e body (within behind_set (put Union t f) a) (put Union t f) a at_set le
      ∙ closed_more e f a Union t steps rest
  body_read e (met {n} {at} {ps} {qs} {rest} {t} {steps} set body) st f a r le =
      runs e st (within (due Meet) f a) (placed at meet) ps (operator_runs e at r).0
      ∙ set_read e set (within (due Meet) f a) (host Meet f a) (due_takes e Meet f a) (omega arith)
      ∙ body_read e body (within behind_set (put Meet t f) a) (put Meet t f) a at_set le
      ∙ closed_more e f a Meet t steps rest
  body_read e (taken {n} {at} {ps} {qs} {rest} {t} {steps} set body) st f a r le =
      runs e st (within (due Minus) f a) (placed at dash) ps (operator_runs e at r).1
      ∙ set_read e set (within (due Minus) f a) (host Minus f a) (due_takes e Minus f a) (omega arith)
      ∙ body_read e body (within behind_set (put Minus t f) a) (put Minus t f) a at_set le
      ∙ closed_more e f a Minus t steps rest
  body_read e (spelled {n} {s} {ps} {qs} {rest} {b} {steps} cs body) st f a r le =
      let read = chars_read e cs st f a r in
      read.goes ∙ body_read e body read.next (put Union (chars b) f) a read.ready le ∙ closed_more e f a Union (chars b) steps rest

pub complete : (e : ℕ) (ps : List Token) (t : Tree) → IsText ps t → run e before ps ≡ Ok t
complete e ps t h = set_read e h before top (top_takes e) (omega arith)
