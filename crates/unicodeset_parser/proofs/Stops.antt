-- Where the reading of tokens stops.
use Rattle.std.proofs.Common.{◌≡◌, ◌⊎◌, ℕ, true, List, [], ◌∷◌, ◌++◌, Result, Ok, Err, inl, inr, refl, sym, ap, ◌∙◌, arith, append_assoc, nat_le}
use Rattle.std.proofs.lemmas.Bool.Decides.{nat_tests}
use Rattle.unicodeset_parser.specs.Laws.{Begins}
use Rattle.unicodeset_parser.specs.Machine as m
use Rattle.unicodeset_parser.specs.Machine.{Fault, fault, State, Frame, within, before, after, first, behind_set, elsewhere, pending, lacking, due, put, range_of, step, run, finished, then_run}
use Rattle.unicodeset_parser.specs.Tokens.{Token, placed, close, letter, property}
use Rattle.unicodeset_parser.specs.Trees.{Tree, named, bracket_of}
use Rattle.unicodeset_parser.specs.declared.expr.Join.TheVariants.{Union}
use Rattle.unicodeset_parser.specs.declared.stop.SetRule.TheVariants.{S2}
use Rattle.unicodeset_parser.proofs.Complete.{runs, complete}
use Rattle.unicodeset_parser.proofs.Sound.{sound}

-- ---- every state can be finished

record Ends (e : ℕ) (st : State) : Type 0 where
  more : List Token
  tree : Tree
  goes : run e st more ≡ Ok tree

closed_ends : (e : ℕ) (f : Frame) (a : List Frame) → Ends e (m.closed f a)
closed_ends e f [] = record { more = []; tree = bracket_of f.negated f.steps; goes = refl }
closed_ends e f (outer ∷ a) = let r = closed_ends e (put f.join (bracket_of f.negated f.steps) outer) a in record { more = placed 0 close ∷ r.more; tree = r.tree; goes = r.goes }

range_ends : (e c : ℕ) (f : Frame) (a : List Frame) → Ends e (within (lacking c) f a)
range_ends e c f a =
    let r = closed_ends e (put Union (range_of c c) f) a in
    let is : nat_le c c ≡ true = grind (arith, nat_tests) in
    let last : step e (within (lacking c) f a) (placed 0 (letter c)) ≡ Ok (within elsewhere (put Union (range_of c c) f) a) = rw is refl in
    record { more = placed 0 (letter c) ∷ placed 0 close ∷ r.more; tree = r.tree; goes = runs e (within (lacking c) f a) (within elsewhere (put Union (range_of c c) f) a) (placed 0 (letter c)) (placed 0 close ∷ r.more) last ∙ r.goes }

ends : (e : ℕ) (st : State) → Ends e st
ends e before = record { more = placed 0 (property (named [] 0)) ∷ []; tree = named [] 0; goes = refl }
ends e (after t) = record { more = []; tree = t; goes = refl }
ends e (within first f a) = let r = closed_ends e f a in record { more = placed 0 close ∷ r.more; tree = r.tree; goes = r.goes }
ends e (within behind_set f a) = let r = closed_ends e f a in record { more = placed 0 close ∷ r.more; tree = r.tree; goes = r.goes }
ends e (within elsewhere f a) = let r = closed_ends e f a in record { more = placed 0 close ∷ r.more; tree = r.tree; goes = r.goes }
ends e (within (pending c) f a) = let r = closed_ends e (put Union (range_of c c) f) a in record { more = placed 0 close ∷ r.more; tree = r.tree; goes = r.goes }
ends e (within (lacking c) f a) = range_ends e c f a
ends e (within (due j) f a) = let r = closed_ends e (put j (named [] 0) f) a in record { more = placed 0 (property (named [] 0)) ∷ placed 0 close ∷ r.more; tree = r.tree; goes = r.goes }

-- ---- where a run stops

abbrev pub Reaches : ℕ → State → List Token → State → Type 0
Reaches e st front next = (more : List Token) → run e st (front ++ more) ≡ run e next more

pub record AtToken (e : ℕ) (st : State) (ps : List Token) (f : Fault) : Type 0 where
  pub front : List Token
  pub token : Token
  pub rest : List Token
  pub next : State
  pub cut : ps ≡ front ++ token ∷ rest
  pub reached : Reaches e st front next
  pub refused : step e next token ≡ Err f

pub record AtEnd (e : ℕ) (st : State) (ps : List Token) (f : Fault) : Type 0 where
  pub next : State
  pub reached : Reaches e st ps next
  pub refused : finished e next ≡ Err f

one_more : (e : ℕ) (st next : State) (p : Token) (ps : List Token) (f : Fault) → step e st p ≡ Ok next → AtToken e next ps f ⊎ AtEnd e next ps f → AtToken e st (p ∷ ps) f ⊎ AtEnd e st (p ∷ ps) f
one_more e st next p ps f is (inl h) = inl (record { front = p ∷ h.front; token = h.token; rest = h.rest; next = h.next; cut = ap (λ qs. p ∷ qs) h.cut; reached = λ more. runs e st next p (h.front ++ more) is ∙ h.reached more; refused = h.refused })
one_more e st next p ps f is (inr h) = inr (record { next = h.next; reached = λ more. runs e st next p (ps ++ more) is ∙ h.reached more; refused = h.refused })

stops_by : (e : ℕ) (st : State) (p : Token) (ps : List Token) (f : Fault) (r : Result State Fault) → step e st p ≡ r → then_run r (λ next. run e next ps) ≡ Err f
    → ((next : State) → run e next ps ≡ Err f → AtToken e next ps f ⊎ AtEnd e next ps f) → AtToken e st (p ∷ ps) f ⊎ AtEnd e st (p ∷ ps) f
stops_by e st p ps f (Ok next) is h ih = one_more e st next p ps f is (ih next h)
stops_by e st p ps f (Err g) is h ih = inl (record { front = []; token = p; rest = ps; next = st; cut = refl; reached = λ more. refl; refused = let same : g ≡ f = cc in is ∙ ap (λ y. Err y) same })

pub stops : (e : ℕ) (ps : List Token) (st : State) (f : Fault) → run e st ps ≡ Err f → AtToken e st ps f ⊎ AtEnd e st ps f
stops e [] st f h = inr (record { next = st; reached = λ more. refl; refused = h })
stops e (p ∷ ps) st f h = stops_by e st p ps f (step e st p) refl h (λ next k. stops e ps next f k)

pub begins : (e : ℕ) (front : List Token) (next : State) → Reaches e before front next → Begins front
begins e front next reached = let r = ends e next in record { more = r.more; tree = r.tree; text = sound e (front ++ r.more) r.tree (reached r.more ∙ r.goes) }

pub no_text : (e : ℕ) (front : List Token) (p : Token) (next : State) (f : Fault) → Reaches e before front next → step e next p ≡ Err f → ¬ (Begins (front ++ p ∷ []))
no_text e front p next f reached refused b =
    let ok : run e before ((front ++ p ∷ []) ++ b.more) ≡ Ok b.tree = complete e ((front ++ p ∷ []) ++ b.more) b.tree b.text in
    let cut : run e before ((front ++ p ∷ []) ++ b.more) ≡ run e before (front ++ (p ∷ b.more)) = ap (λ ts. run e before ts) (append_assoc front (p ∷ []) b.more) in
    let stop : run e next (p ∷ b.more) ≡ Err f = ap (λ r. then_run r (λ s. run e s b.more)) refused in
    let no : Err f ≡ Ok b.tree = sym (cut ∙ reached (p ∷ b.more) ∙ stop) ∙ ok in
    absurd (cc)

pub end_place : (e : ℕ) (st : State) (f : Fault) → finished e st ≡ Err f → f ≡ fault S2 e
end_place e before f h = cc
end_place e (within mode g a) f h = cc
end_place e (after t) f h = absurd (cc)
