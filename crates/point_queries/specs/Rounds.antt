-- The folding rounds, step by step.
--
-- F is the facts of each code point, and `folding` the full or the simple folding.
-- next_at s r                   the list r after a round from s, where it is another one; None where it is s, and where there
--                               is none
-- short_round form kept next    the list `next` after a round, where it and the two lists before it have at most 255 points
-- folded_round folding F form   the list after a round, from the NFKC of the round's list
-- next_from folding F r         the same of the form r; None where there is none
-- again_puts F s kept           what the NFKC of the list `kept` asks, where it is another list than s
-- folding_puts folding F s r    what is put for the folding of the NFKC r of the list s: what it asks, without what the NFKC of
--                               s asks too; of None nothing
-- round_puts folding F s        what is put for a round from s
-- asks_at f r                   f of the list r; nothing where there is none
-- asks_from folding F n s       what is put for at most n rounds from s, until one gives no other list
-- folded_is, next_is            the steps of a round are what the definition of rounds says
-- form_again                    an equal list has the same form
-- round_same                    what is put for a round are the questions that it asks
-- asks_step, asks_none          asks_from with a round left, and without one
use Rattle.std.proofs.Common.{◌≡◌, Bool, true, false, cond, ◌||◌, refl, sym, ap, ◌∙◌, ℕ, zero, suc, List, [], ◌++◌, length, nat_le, Option, Some, None, Result, Ok, Err, if◌then◌else◌, option_and_then, bytes_eq}
use Rattle.std.proofs.lemmas.List.Folds.{list_any-append}
use Rattle.std.proofs.lemmas.Slice.Eq.{bytes_eq-Decides}
use Rattle.ucd_model.specs.Casing.{folded}
use Rattle.ucd_facts.specs.Facts.{Facts}
use Rattle.ucd_model.specs.FoldRounds.{drop_ignorable, short, short_form, short_nfkc, short_fold, round}
use Rattle.ucd_model.specs.Forms.{nfkc}
use Rattle.ucd_facts.specs.declared.folding.Folding.{Folding}
use Rattle.ucd_facts.specs.declared.form.Bad.{Bad as Rule}
use Rattle.ucd_facts.specs.Answers.{same_query, is_asked}
use Rattle.ucd_facts.specs.declared.query.Query.{Query}
use Rattle.query_laws.specs.Questions.{asks, folding_asks, round_asks, row_queries}
use Rattle.query_laws.specs.Turns.{SameQueries}
use Rattle.point_queries.specs.Forms.{list_in}

abbrev pub next_at : List ℕ → Option (List ℕ) → Option (List ℕ)
next_at s (Some t) = if bytes_eq t s then None else Some t
next_at s None = None

abbrev pub short_round : List ℕ → List ℕ → Option (List ℕ) → Option (List ℕ)
short_round form kept next = if nat_le (length form) 255 then (if nat_le (length kept) 255 then option_and_then short next else None) else None

abbrev pub folded_round : Folding → (ℕ → Facts) → List ℕ → Option (List ℕ)
folded_round folding F form = short_round form (drop_ignorable F (folded folding F form)) (list_in (nfkc F (drop_ignorable F (folded folding F form))))

abbrev pub next_from : Folding → (ℕ → Facts) → Option (List ℕ) → Option (List ℕ)
next_from folding F (Some form) = folded_round folding F form
next_from folding F None = None

abbrev pub again_puts : (ℕ → Facts) → List ℕ → List ℕ → List Query
again_puts F s kept = if bytes_eq kept s then [] else asks F true kept

abbrev pub folding_puts : Folding → (ℕ → Facts) → List ℕ → Option (List ℕ) → List Query
folding_puts folding F s (Some form) = row_queries (folded folding F form) ++ again_puts F s (drop_ignorable F (folded folding F form))
folding_puts folding F s None = []

abbrev pub round_puts : Folding → (ℕ → Facts) → List ℕ → List Query
round_puts folding F s = asks F true s ++ folding_puts folding F s (list_in (nfkc F s))

abbrev pub asks_at : (List ℕ → List Query) → Option (List ℕ) → List Query
asks_at f (Some t) = f t
asks_at f None = []

unfoldable pub asks_from : Folding → (ℕ → Facts) → ℕ → List ℕ → List Query
asks_from folding F zero s = []
asks_from folding F (suc n) s = round_puts folding F s ++ asks_at (asks_from folding F n) (next_at s (round folding F s))

pub asks_step : (folding : Folding) (F : ℕ → Facts) (n : ℕ) (s : List ℕ) → asks_from folding F (suc n) s ≡ round_puts folding F s ++ asks_at (asks_from folding F n) (next_at s (round folding F s))
unfolding asks_from
asks_step folding F n s = refl

pub asks_none : (folding : Folding) (F : ℕ → Facts) (s : List ℕ) → asks_from folding F 0 s ≡ []
unfolding asks_from
asks_none folding F s = refl

-- ---- one round

short_listed : (r : Result (List ℕ) Rule) → option_and_then short (list_in r) ≡ short_form r
short_listed (Ok s) = refl
short_listed (Err rule) = refl

parts : (folding : Folding) (F : ℕ → Facts) (form : List ℕ) (a b : Bool)
    → cond a (cond b (option_and_then short (list_in (nfkc F (drop_ignorable F (folded folding F form))))) None) None
    ≡ option_and_then (short_nfkc F) (option_and_then (λ s. cond b (Some (drop_ignorable F (folded folding F s))) None) (cond a (Some form) None))
parts folding F form true true = short_listed (nfkc F (drop_ignorable F (folded folding F form)))
parts folding F form true false = refl
parts folding F form false b = refl

shorts : (folding : Folding) (F : ℕ → Facts) (form : List ℕ) (a : Bool)
    → option_and_then (λ s. cond (nat_le (length (drop_ignorable F (folded folding F form))) 255) (Some (drop_ignorable F (folded folding F s))) None) (cond a (Some form) None) ≡ option_and_then (short_fold folding F) (cond a (Some form) None)
shorts folding F form true = refl
shorts folding F form false = refl

pub folded_is : (folding : Folding) (F : ℕ → Facts) (r : Result (List ℕ) Rule) → next_from folding F (list_in r) ≡ option_and_then (short_nfkc F) (option_and_then (short_fold folding F) (short_form r))
folded_is folding F (Ok form) =
    parts folding F form (nat_le (length form) 255) (nat_le (length (drop_ignorable F (folded folding F form))) 255)
    ∙ ap (option_and_then (short_nfkc F)) (shorts folding F form (nat_le (length form) 255))
folded_is folding F (Err rule) = refl

pub next_is : (folding : Folding) (F : ℕ → Facts) (s : List ℕ) → next_from folding F (list_in (nfkc F s)) ≡ round folding F s
next_is folding F s = folded_is folding F (nfkc F s)

-- ---- what is put

once : (a b : Bool) → (a || (b || false)) ≡ (a || (b || a))
once true b = refl
once false b = refl

again_same : (F : ℕ → Facts) (s rows kept : List ℕ) (e : Bool) → bytes_eq kept s ≡ e → (q : Query)
    → is_asked (asks F true s ++ (row_queries rows ++ cond e [] (asks F true kept))) q ≡ is_asked (asks F true s ++ (row_queries rows ++ asks F true kept)) q
again_same F s rows kept true e q =
    let A : List Query = asks F true s in
    let R : List Query = row_queries rows in
    let same : A ≡ asks F true kept = ap (asks F true) (sym ((bytes_eq-Decides kept s).0 e)) in
    let split : (B : List Query) → is_asked (A ++ (R ++ B)) q ≡ (is_asked A q || (is_asked R q || is_asked B q)) = λ B. list_any-append (same_query q) A (R ++ B) ∙ ap (λ b. is_asked A q || b) (list_any-append (same_query q) R B) in
    split [] ∙ once (is_asked A q) (is_asked R q) ∙ sym (split A) ∙ ap (λ (B : List Query). is_asked (A ++ (R ++ B)) q) same
again_same F s rows kept false e q = refl

form_same : (folding : Folding) (F : ℕ → Facts) (s : List ℕ) (r : Result (List ℕ) Rule) → SameQueries (asks F true s ++ folding_puts folding F s (list_in r)) (asks F true s ++ folding_asks folding F r)
form_same folding F s (Ok form) =
    let kept : List ℕ = drop_ignorable F (folded folding F form) in
    again_same F s (folded folding F form) kept (bytes_eq kept s) refl
form_same folding F s (Err rule) = λ q. refl

pub round_same : (folding : Folding) (F : ℕ → Facts) (s : List ℕ) → SameQueries (round_puts folding F s) (round_asks folding F s)
round_same folding F s = form_same folding F s (nfkc F s)

pub form_again : (F : ℕ → Facts) (s kept form : List ℕ) → bytes_eq kept s ≡ true → Some form ≡ list_in (nfkc F s) → Some form ≡ list_in (nfkc F kept)
form_again F s kept form e is = is ∙ ap (λ xs. list_in (nfkc F xs)) (sym ((bytes_eq-Decides kept s).0 e))
