-- Which rule the fault of a token is.
use Rattle.std.proofs.Common.{◌≡◌, ◌⊎◌, ℕ, Bool, true, false, cond, List, [], ◌∷◌, ◌++◌, length, Result, Ok, Err, inl, inr, refl, sym, ap, ◌∙◌, arith, append_assoc, nat_lt, nat_le}
use Rattle.std.proofs.lemmas.Bool.Decides.{nat_tests}
use Rattle.unicodeset_parser.specs.FaultNames.{MaySet, MayLetter, Names, NamedIn, FaultsAreNamed}
use Rattle.unicodeset_parser.specs.Laws.{StopsBehind}
use Rattle.unicodeset_parser.specs.Machine as m
use Rattle.unicodeset_parser.specs.Machine.{Fault, fault, State, Frame, within, before, after, first, behind_set, elsewhere, pending, lacking, due, fresh, put, range_of, step, run}
use Rattle.unicodeset_parser.specs.Tokens.{Token, placed, Sign, open_set, close, dash, meet, letter, property, wrong}
use Rattle.unicodeset_parser.specs.Trees.{Tree, named}
use Rattle.unicodeset_parser.specs.declared.expr.Join.{Join}
use Rattle.unicodeset_parser.specs.declared.expr.Join.TheVariants.{Union}
use Rattle.unicodeset_parser.specs.declared.stop.SetRule.TheVariants.{S2, S3, S4, S5, S6, S7}
use Rattle.unicodeset_parser.specs.declared.token.BadToken.{BadToken}
use Rattle.unicodeset_parser.specs.declared.token.BadToken.TheVariants.{Unclosed, RefusedName, BadEscape, CharacterName, Special, Cut, Other}
use Rattle.unicodeset_parser.proofs.Complete.{runs}
use Rattle.unicodeset_parser.proofs.Stops.{Reaches, AtToken, AtEnd, begins, no_text, stops, end_place}

abbrev stopped : Fault → Result State Fault
stopped f = Err f

-- ---- what may stand behind tokens that lead to a state

module _ (e : ℕ) (front : List Token) (next : State) (reached : Reaches e before front next) where
  goes_on : (p : Token) (st : State) → step e next p ≡ Ok st → Reaches e before (front ++ p ∷ []) st
  goes_on p st h more = ap (λ ts. run e before ts) (append_assoc front (p ∷ []) more) ∙ reached (p ∷ more) ∙ runs e next st p more h

  may_set : (st : State) → step e next (placed 0 (property (named [] 0))) ≡ Ok st → MaySet front
  may_set st h = (named [] 0, begins e (front ++ placed 0 (property (named [] 0)) ∷ []) st (goes_on (placed 0 (property (named [] 0))) st h))

  may_letter : (c : ℕ) (st : State) → step e next (placed 0 (letter c)) ≡ Ok st → MayLetter front
  may_letter c st h = (c, begins e (front ++ placed 0 (letter c) ∷ []) st (goes_on (placed 0 (letter c)) st h))

  no_set : ((t : Tree) → step e next (placed 0 (property t)) ≡ Err (fault S3 0)) → ¬ (MaySet front)
  no_set h some = no_text e front (placed 0 (property some.0)) next (fault S3 0) reached (h some.0) some.1

  no_letter : ((c : ℕ) → step e next (placed 0 (letter c)) ≡ Err (fault S3 0)) → ¬ (MayLetter front)
  no_letter h some = no_text e front (placed 0 (letter some.0)) next (fault S3 0) reached (h some.0) some.1

-- ---- the fault by what may stand

module _ (e : ℕ) (x : Fault) (front : List Token) where
  is : (f : Fault) → stopped f ≡ stopped x → x ≡ f
  is f h = let same : f ≡ x = cc in sym same

  opened_named : (set : MaySet front) (at : ℕ) (negated : Bool) (s : State) (b : Bool) → cond b (Ok s) (Err (fault S6 at)) ≡ Err x → Names e front (placed at (open_set negated)) x
  opened_named set at negated s true h = absurd (cc)
  opened_named set at negated s false h = inl (set, is (fault S6 at) h)

  module _ (set : MaySet front) (none : ¬ (MayLetter front)) where
    set_wrong : (at : ℕ) (w : BadToken) → stopped (m.set_fault e at w) ≡ stopped x → Names e front (placed at (wrong w)) x
    set_wrong at Unclosed h = inl (set, is (fault S2 e) h)
    set_wrong at Cut h = inl (inl set, is (fault S2 e) h)
    set_wrong at RefusedName h = inl (set, is (fault S7 at) h)
    set_wrong at CharacterName h = is (fault S7 at) h
    set_wrong at BadEscape h = is (fault S5 at) h
    set_wrong at Special h = inr ((λ both. none both.1), is (fault S3 at) h)
    set_wrong at Other h = is (fault S3 at) h

    begun_named : (at : ℕ) (sign : Sign) → m.begun e (placed at sign) ≡ Err x → Names e front (placed at sign) x
    begun_named at (open_set negated) h = absurd (cc)
    begun_named at (property t) h = absurd (cc)
    begun_named at (wrong w) h = set_wrong at w h
    begun_named at close h = is (fault S3 at) h
    begun_named at dash h = is (fault S3 at) h
    begun_named at meet h = is (fault S3 at) h
    begun_named at (letter c) h = inr (none, is (fault S3 at) h)

    operand_named : (j : Join) (f : Frame) (a : List Frame) (at : ℕ) (sign : Sign) → m.operand j e f a (placed at sign) ≡ Err x → Names e front (placed at sign) x
    operand_named j f a at (open_set negated) h = opened_named set at negated (within first (fresh negated j) (f ∷ a)) (nat_lt (length a) 63) h
    operand_named j f a at (property t) h = absurd (cc)
    operand_named j f a at (wrong w) h = set_wrong at w h
    operand_named j f a at close h = is (fault S3 at) h
    operand_named j f a at dash h = is (fault S3 at) h
    operand_named j f a at meet h = is (fault S3 at) h
    operand_named j f a at (letter c) h = inr (none, is (fault S3 at) h)

  module _ (set : MaySet front) (some : MayLetter front) where
    element_wrong : (at : ℕ) (w : BadToken) → stopped (m.element_fault e at w) ≡ stopped x → Names e front (placed at (wrong w)) x
    element_wrong at Unclosed h = inl (set, is (fault S2 e) h)
    element_wrong at Cut h = inl (inl set, is (fault S2 e) h)
    element_wrong at RefusedName h = inl (set, is (fault S7 at) h)
    element_wrong at CharacterName h = is (fault S7 at) h
    element_wrong at BadEscape h = is (fault S5 at) h
    element_wrong at Special h = inl ((set, some), is (fault S7 at) h)
    element_wrong at Other h = is (fault S3 at) h

    element_named : (f : Frame) (a : List Frame) (at : ℕ) (sign : Sign) → m.element e f a (placed at sign) ≡ Err x → Names e front (placed at sign) x
    element_named f a at (open_set negated) h = opened_named set at negated (within first (fresh negated Union) (f ∷ a)) (nat_lt (length a) 63) h
    element_named f a at (property t) h = absurd (cc)
    element_named f a at close h = absurd (cc)
    element_named f a at (letter c) h = absurd (cc)
    element_named f a at (wrong w) h = element_wrong at w h
    element_named f a at dash h = is (fault S3 at) h
    element_named f a at meet h = is (fault S3 at) h

    first_named : (f : Frame) (a : List Frame) (at : ℕ) (sign : Sign) → m.first_element e f a (placed at sign) ≡ Err x → Names e front (placed at sign) x
    first_named f a at dash h = absurd (cc)
    first_named f a at (open_set negated) h = element_named f a at (open_set negated) h
    first_named f a at (property t) h = absurd (cc)
    first_named f a at close h = absurd (cc)
    first_named f a at (letter c) h = absurd (cc)
    first_named f a at meet h = element_named f a at meet h
    first_named f a at (wrong w) h = element_named f a at (wrong w) h

    operator_named : (f : Frame) (a : List Frame) (at : ℕ) (sign : Sign) → m.operator e f a (placed at sign) ≡ Err x → Names e front (placed at sign) x
    operator_named f a at dash h = absurd (cc)
    operator_named f a at meet h = absurd (cc)
    operator_named f a at (open_set negated) h = element_named f a at (open_set negated) h
    operator_named f a at (property t) h = absurd (cc)
    operator_named f a at close h = absurd (cc)
    operator_named f a at (letter c) h = absurd (cc)
    operator_named f a at (wrong w) h = element_named f a at (wrong w) h

    letter_named : (c : ℕ) (f : Frame) (a : List Frame) (at : ℕ) (sign : Sign) → m.behind_letter c e f a (placed at sign) ≡ Err x → Names e front (placed at sign) x
    letter_named c f a at dash h = absurd (cc)
    letter_named c f a at (open_set negated) h = element_named (put Union (range_of c c) f) a at (open_set negated) h
    letter_named c f a at (property t) h = absurd (cc)
    letter_named c f a at close h = absurd (cc)
    letter_named c f a at (letter d) h = absurd (cc)
    letter_named c f a at meet h = element_named (put Union (range_of c c) f) a at meet h
    letter_named c f a at (wrong w) h = element_named (put Union (range_of c c) f) a at (wrong w) h

  module _ (no_set : ¬ (MaySet front)) (some : MayLetter front) where
    range_wrong : (at : ℕ) (w : BadToken) → stopped (m.range_fault e at w) ≡ stopped x → Names e front (placed at (wrong w)) x
    range_wrong at Unclosed h = inr (no_set, is (fault S3 at) h)
    range_wrong at Cut h = inl (inr some, is (fault S2 e) h)
    range_wrong at RefusedName h = inr (no_set, is (fault S3 at) h)
    range_wrong at CharacterName h = is (fault S7 at) h
    range_wrong at BadEscape h = is (fault S5 at) h
    range_wrong at Special h = inr ((λ both. no_set both.0), is (fault S3 at) h)
    range_wrong at Other h = is (fault S3 at) h

    last_named : (at d : ℕ) (s : State) (b : Bool) → cond b (Ok s) (Err (fault S4 at)) ≡ Err x → Names e front (placed at (letter d)) x
    last_named at d s true h = absurd (cc)
    last_named at d s false h = inl (some, is (fault S4 at) h)

    range_named : (c : ℕ) (f : Frame) (a : List Frame) (at : ℕ) (sign : Sign) → m.range_end c e f a (placed at sign) ≡ Err x → Names e front (placed at sign) x
    range_named c f a at (letter d) h = last_named at d (within elsewhere (put Union (range_of c d) f) a) (nat_le c d) h
    range_named c f a at (wrong w) h = range_wrong at w h
    range_named c f a at (open_set negated) h = inr (no_set, is (fault S3 at) h)
    range_named c f a at (property t) h = is (fault S3 at) h
    range_named c f a at close h = is (fault S3 at) h
    range_named c f a at dash h = is (fault S3 at) h
    range_named c f a at meet h = is (fault S3 at) h

  module _ (no_set : ¬ (MaySet front)) (none : ¬ (MayLetter front)) where
    neither : ¬ (MaySet front ⊎ MayLetter front)
    neither (inl set) = no_set set
    neither (inr some) = none some

    late_wrong : (at : ℕ) (w : BadToken) → stopped (m.late_fault at w) ≡ stopped x → Names e front (placed at (wrong w)) x
    late_wrong at Unclosed h = inr (no_set, is (fault S3 at) h)
    late_wrong at Cut h = inr (neither, is (fault S3 at) h)
    late_wrong at RefusedName h = inr (no_set, is (fault S3 at) h)
    late_wrong at CharacterName h = is (fault S7 at) h
    late_wrong at BadEscape h = is (fault S5 at) h
    late_wrong at Special h = inr ((λ both. none both.1), is (fault S3 at) h)
    late_wrong at Other h = is (fault S3 at) h

    late_named : (at : ℕ) (sign : Sign) → stopped (m.too_late (placed at sign)) ≡ stopped x → Names e front (placed at sign) x
    late_named at (wrong w) h = late_wrong at w h
    late_named at (open_set negated) h = inr (no_set, is (fault S3 at) h)
    late_named at (property t) h = is (fault S3 at) h
    late_named at close h = is (fault S3 at) h
    late_named at dash h = is (fault S3 at) h
    late_named at meet h = is (fault S3 at) h
    late_named at (letter c) h = inr (none, is (fault S3 at) h)

-- ---- the fault by the state

range_goes : (e c : ℕ) (f : Frame) (a : List Frame) → step e (within (lacking c) f a) (placed 0 (letter c)) ≡ Ok (within elsewhere (put Union (range_of c c) f) a)
range_goes e c f a =
    let is : nat_le c c ≡ true = grind (arith, nat_tests) in
    rw is refl

-- a step of a set without a name, as what may stand
abbrev with_set : Join → Frame → List Frame → State
with_set j f a = within behind_set (put j (named [] 0) f) a

names : (e : ℕ) (x : Fault) (front : List Token) (next : State) → Reaches e before front next → (at : ℕ) (sign : Sign) → step e next (placed at sign) ≡ Err x → Names e front (placed at sign) x
names e x front before r at sign h =
    begun_named e x front (may_set e front before r (after (named [] 0)) refl) (no_letter e front before r (λ c. refl)) at sign h
names e x front (after t) r at sign h =
    late_named e x front (no_set e front (after t) r (λ u. refl)) (no_letter e front (after t) r (λ c. refl)) at sign h
names e x front (within first f a) r at sign h =
    first_named e x front (may_set e front (within first f a) r (with_set Union f a) refl) (may_letter e front (within first f a) r 0 (within (pending 0) f a) refl) f a at sign h
names e x front (within behind_set f a) r at sign h =
    operator_named e x front (may_set e front (within behind_set f a) r (with_set Union f a) refl) (may_letter e front (within behind_set f a) r 0 (within (pending 0) f a) refl) f a at sign h
names e x front (within elsewhere f a) r at sign h =
    element_named e x front (may_set e front (within elsewhere f a) r (with_set Union f a) refl) (may_letter e front (within elsewhere f a) r 0 (within (pending 0) f a) refl) f a at sign h
names e x front (within (pending c) f a) r at sign h =
    let g = put Union (range_of c c) f in
    letter_named e x front (may_set e front (within (pending c) f a) r (with_set Union g a) refl) (may_letter e front (within (pending c) f a) r 0 (within (pending 0) g a) refl) c f a at sign h
names e x front (within (lacking c) f a) r at sign h =
    range_named e x front (no_set e front (within (lacking c) f a) r (λ t. refl)) (may_letter e front (within (lacking c) f a) r c (within elsewhere (put Union (range_of c c) f) a) (range_goes e c f a)) c f a at sign h
names e x front (within (due j) f a) r at sign h =
    operand_named e x front (may_set e front (within (due j) f a) r (with_set j f a) refl) (no_letter e front (within (due j) f a) r (λ c. refl)) j f a at sign h

token_named : (e : ℕ) (x : Fault) (front : List Token) (next : State) → Reaches e before front next → (p : Token) → step e next p ≡ Err x → Names e front p x
token_named e x front next r (placed at sign) h = names e x front next r at sign h

named_by : (e : ℕ) (ps : List Token) (f : Fault) → AtToken e before ps f ⊎ AtEnd e before ps f → NamedIn e ps f ⊎ StopsBehind e ps f
named_by e ps f (inl h) = inl (record { front = h.front; token = h.token; rest = h.rest; cut = h.cut; begins = begins e h.front h.next h.reached; ends = no_text e h.front h.token h.next f h.reached h.refused; names = token_named e f h.front h.next h.reached h.token h.refused })
named_by e ps f (inr h) = inr (record { begins = begins e ps h.next h.reached; stands = end_place e h.next f h.refused })

pub faults_are_named : FaultsAreNamed
faults_are_named e ps f h = named_by e ps f (stops e ps before f h)
