-- Rounds from a list that is known to be its own NFKC.
--
-- F is the facts of each code point, and `folding` the full or the simple folding.
-- after_at s kept r                      the list r after a round from s, where it is another one; it is known where it is the
--                                        list `kept`, whose NFKC it is
-- after_form folding F s r               the same of a round from s, whose NFKC is r; None where there is none
-- after_round folding F s                the same of a round from s
-- known_puts folding F known s           what is put for a round from s, without what the NFKC of s asks, where s is known
-- alike_in F r                           the full folding of each member of the form r is its simple one alone; so where there is
--                                        no form
-- puts_at f r                            f of the list r and of whether it is known; nothing where there is none
-- puts_from folding F n known s          what is put for at most n rounds from s, until one gives no other list
-- after_is_form                          a list that is known after a round is its own NFKC
-- puts_are                               what is put round by round are the questions that all rounds up to the last one ask
-- round_covered                          of a round that is alike, what is put and what it gives is what each folding puts and gives
-- rounds_stop, rounds_more, rounds_end   a round after which no other list comes, one after which another one comes, and no
--                                        round left
use Rattle.std.proofs.Common.{◌≡◌, ℕ, zero, suc, ◌+◌, ◌-◌, ◌<◌, ◌≤◌, Bool, true, false, cond, ◌||◌, ◌&&◌, List, [], ◌∷◌, ◌++◌, append_assoc, append-nil, length, nat_le, Option, Some, None, is_some, if◌then◌else◌, refl, sym, ap, ◌∙◌, subst, arith, option_and_then, bytes_eq, true≢false}
use Rattle.std.proofs.lemmas.List.Folds.{list_any-append}
use Rattle.std.proofs.lemmas.Slice.Eq.{bytes_eq-Decides}
use Rattle.std.proofs.Math.Bool.{or-true, or_assoc}
use Rattle.ucd_model.specs.Casing.{folded}
use Rattle.ucd_facts.specs.Facts.{Facts}
use Rattle.ucd_model.specs.FoldRounds.{drop_ignorable, short, round}
use Rattle.ucd_model.specs.Forms.{nfkc}
use Rattle.ucd_facts.specs.declared.folding.Folding.{Folding}
use Rattle.ucd_facts.specs.Answers.{same_query, is_asked}
use Rattle.ucd_facts.specs.declared.query.Query.{Query}
use Rattle.query_laws.specs.Turns.{SameQueries}
use Rattle.query_laws.specs.Questions.{asks, last_round, rounds_ask, row_queries}
use Rattle.fold_rounds.specs.AlikeProofs.{covered_both, folded_covered}
use Rattle.fold_rounds.specs.Steps.{are_alike, IsCovered}
use Rattle.point_queries.specs.Forms.{list_in}
use Rattle.point_queries.specs.Rounds.{next_at, next_from, next_is, short_round, folded_round, again_puts, folding_puts, round_puts, asks_at, asks_from, asks_step, asks_none}
use Rattle.point_queries.specs.RoundQuestions.{rounds_are}
use Rattle.point_queries.specs.declared.rounds.After.{After}

abbrev pub after_at : List ℕ → List ℕ → Option (List ℕ) → Option After
after_at s kept (Some t) = if bytes_eq t s then None else Some (record { list = t; known = bytes_eq kept t })
after_at s kept None = None

abbrev pub after_form : Folding → (ℕ → Facts) → List ℕ → Option (List ℕ) → Option After
after_form folding F s (Some form) = after_at s (drop_ignorable F (folded folding F form)) (folded_round folding F form)
after_form folding F s None = None

abbrev pub after_round : Folding → (ℕ → Facts) → List ℕ → Option After
after_round folding F s = after_form folding F s (list_in (nfkc F s))

abbrev pub known_puts : Folding → (ℕ → Facts) → Bool → List ℕ → List Query
known_puts folding F known s = (if known then [] else asks F true s) ++ folding_puts folding F s (list_in (nfkc F s))

abbrev pub alike_in : (ℕ → Facts) → Option (List ℕ) → Bool
alike_in F (Some form) = are_alike F form
alike_in F None = true

abbrev pub puts_at : (Bool → List ℕ → List Query) → Option After → List Query
puts_at f (Some a) = f a.known a.list
puts_at f None = []

unfoldable pub puts_from : Folding → (ℕ → Facts) → ℕ → Bool → List ℕ → List Query
puts_from folding F zero known s = []
puts_from folding F (suc n) known s = known_puts folding F known s ++ puts_at (puts_from folding F n) (after_round folding F s)

puts_step : (folding : Folding) (F : ℕ → Facts) (n : ℕ) (known : Bool) (s : List ℕ) → puts_from folding F (suc n) known s ≡ known_puts folding F known s ++ puts_at (puts_from folding F n) (after_round folding F s)
unfolding puts_from
puts_step folding F n known s = refl

puts_none : (folding : Folding) (F : ℕ → Facts) (known : Bool) (s : List ℕ) → puts_from folding F 0 known s ≡ []
unfolding puts_from
puts_none folding F known s = refl

-- ---- the list after a round

abbrev list_of : Option After → Option (List ℕ)
list_of (Some a) = Some a.list
list_of None = None

listed_if : (s kept t : List ℕ) (e : Bool) → list_of (cond e None (Some (record { list = t; known = bytes_eq kept t }))) ≡ cond e None (Some t)
listed_if s kept t true = refl
listed_if s kept t false = refl

listed_at : (s kept : List ℕ) (r : Option (List ℕ)) → list_of (after_at s kept r) ≡ next_at s r
listed_at s kept (Some t) = listed_if s kept t (bytes_eq t s)
listed_at s kept None = refl

listed_form : (folding : Folding) (F : ℕ → Facts) (s : List ℕ) (r : Option (List ℕ)) → list_of (after_form folding F s r) ≡ next_at s (next_from folding F r)
listed_form folding F s (Some form) = listed_at s (drop_ignorable F (folded folding F form)) (folded_round folding F form)
listed_form folding F s None = refl

listed : (folding : Folding) (F : ℕ → Facts) (s : List ℕ) → list_of (after_round folding F s) ≡ next_at s (round folding F s)
listed folding F s = listed_form folding F s (list_in (nfkc F s)) ∙ ap (next_at s) (next_is folding F s)

record IsKnown (s kept : List ℕ) (r : Option (List ℕ)) (a : After) : Type 0 where
  same : kept ≡ a.list
  list : r ≡ Some a.list
  other : bytes_eq kept s ≡ false

known_if : (s kept t : List ℕ) (e : Bool) (a : After) → bytes_eq t s ≡ e → ◌≡◌ {A = Option After} (cond e None (Some (record { list = t; known = bytes_eq kept t }))) (Some a) → a.known ≡ true → IsKnown s kept (Some t) a
known_if s kept t true a e is known = cc
known_if s kept t false a e is known =
    let whole : ◌≡◌ {A = After} (record { list = t; known = bytes_eq kept t }) a = cc in
    let found : kept ≡ t = (bytes_eq-Decides kept t).0 (ap (λ (x : After). x.known) whole ∙ known) in
    record { same = found ∙ ap (λ (x : After). x.list) whole; list = ap (λ (x : After). Some x.list) whole; other = ap (λ xs. bytes_eq xs s) found ∙ e }

known_at : (s kept : List ℕ) (r : Option (List ℕ)) (a : After) → after_at s kept r ≡ Some a → a.known ≡ true → IsKnown s kept r a
known_at s kept (Some t) a is known = known_if s kept t (bytes_eq t s) a refl is known
known_at s kept None a is known = cc

of_short : (next : Option (List ℕ)) (t : List ℕ) → option_and_then short next ≡ Some t → next ≡ Some t
of_short (Some u) t e = short_if u t (nat_le (length u) 255) e
  where
    short_if : (u t : List ℕ) (b : Bool) → ◌≡◌ {A = Option (List ℕ)} (cond b (Some u) None) (Some t) → ◌≡◌ {A = Option (List ℕ)} (Some u) (Some t)
    short_if u t true e = e
    short_if u t false e = cc
of_short None t e = cc

of_round : (a b : Bool) (next : Option (List ℕ)) (t : List ℕ) → ◌≡◌ {A = Option (List ℕ)} (cond a (cond b (option_and_then short next) None) None) (Some t) → next ≡ Some t
of_round true true next t e = of_short next t e
of_round true false next t e = cc
of_round false b next t e = cc

module _ (folding : Folding) (F : ℕ → Facts) (s : List ℕ) (a : After) (known : a.known ≡ true) where
  form_of : (r : Option (List ℕ)) → after_form folding F s r ≡ Some a → Some a.list ≡ list_in (nfkc F a.list)
  form_of (Some form) is =
      let kept : List ℕ = drop_ignorable F (folded folding F form) in
      let k = known_at s kept (folded_round folding F form) a is known in
      sym (ap (λ xs. list_in (nfkc F xs)) (sym k.same) ∙ of_round (nat_le (length form) 255) (nat_le (length kept) 255) (list_in (nfkc F kept)) a.list k.list)
  form_of None is = cc

  asked_of : (r : Option (List ℕ)) → after_form folding F s r ≡ Some a → (q : Query) → is_asked (asks F true a.list) q ≡ true → is_asked (folding_puts folding F s r) q ≡ true
  asked_of (Some form) is q e =
      let kept : List ℕ = drop_ignorable F (folded folding F form) in
      let k = known_at s kept (folded_round folding F form) a is known in
      let put : again_puts F s kept ≡ asks F true a.list = ap (λ b. cond b [] (asks F true kept)) k.other ∙ ap (asks F true) k.same in
      list_any-append (same_query q) (row_queries (folded folding F form)) (again_puts F s kept)
      ∙ ap (λ (Q : List Query). is_asked (row_queries (folded folding F form)) q || is_asked Q q) put
      ∙ ap (λ b. is_asked (row_queries (folded folding F form)) q || b) e
      ∙ or-true (is_asked (row_queries (folded folding F form)) q)
  asked_of None is q e = cc

pub after_is_form : (folding : Folding) (F : ℕ → Facts) (s : List ℕ) (a : After) → Some a ≡ after_round folding F s → a.known ≡ true → Some a.list ≡ list_in (nfkc F a.list)
after_is_form folding F s a is known = form_of folding F s a known (list_in (nfkc F s)) (sym is)

-- ---- what is put

left_out : (p a f : Bool) → (a ≡ true → p ≡ true) → (p || f) ≡ (p || (a || f))
left_out true a f h = refl
left_out false true f h = absurd (true≢false (sym (h refl)))
left_out false false f h = refl

module _ (folding : Folding) (F : ℕ → Facts) where
  abbrev Stands : List Query → Bool → List ℕ → Type 0
  Stands P known s = known ≡ true → (q : Query) → is_asked (asks F true s) q ≡ true → is_asked P q ≡ true

  round_put : (P : List Query) (known : Bool) (s : List ℕ) → Stands P known s → (q : Query) → (is_asked P q || is_asked (known_puts folding F known s) q) ≡ (is_asked P q || is_asked (round_puts folding F s) q)
  round_put P true s stands q =
      let rest = folding_puts folding F s (list_in (nfkc F s)) in
      left_out (is_asked P q) (is_asked (asks F true s) q) (is_asked rest q) (stands refl q) ∙ ap (λ b. is_asked P q || b) (sym (list_any-append (same_query q) (asks F true s) rest))
  round_put P false s stands q = refl

  in_three : (P Q R : List Query) (q : Query) → is_asked (P ++ (Q ++ R)) q ≡ ((is_asked P q || is_asked Q q) || is_asked R q)
  in_three P Q R q = list_any-append (same_query q) P (Q ++ R) ∙ ap (λ b. is_asked P q || b) (list_any-append (same_query q) Q R) ∙ sym (or_assoc (is_asked P q) (is_asked Q q) (is_asked R q))

  stands_next : (P : List Query) (s : List ℕ) (a : After) → after_round folding F s ≡ Some a → Stands (P ++ round_puts folding F s) a.known a.list
  stands_next P s a is k q e =
      let form : List Query = asks F true s in
      let rest : List Query = folding_puts folding F s (list_in (nfkc F s)) in
      in_three P form rest q
      ∙ ap (λ b. (is_asked P q || is_asked form q) || b) (asked_of folding F s a k (list_in (nfkc F s)) is q e)
      ∙ or-true (is_asked P q || is_asked form q)

  later : (n : ℕ) (P : List Query) (s : List ℕ)
      → ((known : Bool) (t : List ℕ) (Q : List Query) → Stands Q known t → SameQueries (Q ++ puts_from folding F n known t) (Q ++ asks_from folding F n t))
      → (r : Option After) → after_round folding F s ≡ r → SameQueries ((P ++ round_puts folding F s) ++ puts_at (puts_from folding F n) r) ((P ++ round_puts folding F s) ++ asks_at (asks_from folding F n) (list_of r))
  later n P s each (Some a) is = each a.known a.list (P ++ round_puts folding F s) (stands_next P s a is)
  later n P s each None is = λ q. refl

  puts_same : (n : ℕ) (known : Bool) (s : List ℕ) (P : List Query) → Stands P known s → SameQueries (P ++ puts_from folding F n known s) (P ++ asks_from folding F n s)
  puts_same zero known s P stands q = ap (λ Q. is_asked (P ++ Q) q) (puts_none folding F known s ∙ sym (asks_none folding F s))
  puts_same (suc n) known s P stands q =
      let R : List Query = round_puts folding F s in
      ap (λ Q. is_asked (P ++ Q) q) (puts_step folding F n known s)
      ∙ in_three P (known_puts folding F known s) (puts_at (puts_from folding F n) (after_round folding F s)) q
      ∙ ap (λ b. b || is_asked (puts_at (puts_from folding F n) (after_round folding F s)) q) (round_put P known s stands q)
      ∙ sym (in_three P R (puts_at (puts_from folding F n) (after_round folding F s)) q)
      ∙ ap (λ Q. is_asked Q q) (sym (append_assoc P R (puts_at (puts_from folding F n) (after_round folding F s))))
      ∙ later n P s (puts_same n) (after_round folding F s) refl q
      ∙ ap (λ Q. is_asked Q q) (append_assoc P R (asks_at (asks_from folding F n) (list_of (after_round folding F s))))
      ∙ ap (λ r. is_asked (P ++ (R ++ asks_at (asks_from folding F n) r)) q) (listed folding F s)
      ∙ ap (λ Q. is_asked (P ++ Q) q) (sym (asks_step folding F n s))

pub puts_are : (folding : Folding) (F : ℕ → Facts) (c : ℕ) → is_some (last_round folding F c) ≡ true → SameQueries (puts_from folding F 8 false (c ∷ [])) (rounds_ask folding F c (last_round folding F c))
puts_are folding F c e = λ q. puts_same folding F 8 false (c ∷ []) [] (λ no. absurd (true≢false (sym no))) q ∙ rounds_are folding F c e q

-- ---- both foldings

module _ (folding k : Folding) (F : ℕ → Facts) (s : List ℕ) where
  form_puts : (r : Option (List ℕ)) → IsCovered folding (alike_in F r) k → folding_puts k F s r ≡ folding_puts folding F s r
  form_puts (Some form) covered = ap (λ xs. row_queries xs ++ again_puts F s (drop_ignorable F xs)) (folded_covered folding k F form covered)
  form_puts None covered = refl

  form_after : (r : Option (List ℕ)) → IsCovered folding (alike_in F r) k → after_form k F s r ≡ after_form folding F s r
  form_after (Some form) covered =
      ap (λ xs. after_at s (drop_ignorable F xs) (short_round form (drop_ignorable F xs) (list_in (nfkc F (drop_ignorable F xs))))) (folded_covered folding k F form covered)
  form_after None covered = refl

  puts_covered : IsCovered folding (alike_in F (list_in (nfkc F s))) k → (known : Bool) → known_puts k F known s ≡ known_puts folding F known s
  puts_covered covered known = ap (λ qs. cond known [] (asks F true s) ++ qs) (form_puts (list_in (nfkc F s)) covered)

  after_covered : IsCovered folding (alike_in F (list_in (nfkc F s))) k → after_round k F s ≡ after_round folding F s
  after_covered covered = form_after (list_in (nfkc F s)) covered

  pub round_covered : (known : Bool) (t : List ℕ) (now put : List Query) (r : Option After) (before alike all : Bool) → t ≡ s → put ≡ now ++ known_puts folding F known t → r ≡ after_round folding F t
      → alike ≡ alike_in F (list_in (nfkc F t)) → all ≡ (before && alike) → IsCovered folding all k
      → IsCovered folding before k × (put ≡ now ++ known_puts k F known s) × (r ≡ after_round k F s)
  round_covered known t now put r before alike all same puts after is both covered =
      let parts = covered_both folding k before alike (subst (λ (b : Bool). IsCovered folding b k) both covered) in
      let here : IsCovered folding (alike_in F (list_in (nfkc F s))) k = subst (λ (b : Bool). IsCovered folding b k) (is ∙ ap (λ xs. alike_in F (list_in (nfkc F xs))) same) parts.1 in (
        parts.0,
        puts ∙ ap (λ xs. now ++ known_puts folding F known xs) same ∙ ap (λ (qs : List Query). now ++ qs) (sym (puts_covered here known)),
        after ∙ ap (after_round folding F) same ∙ sym (after_covered here),
      )

-- ---- round by round

module _ (folding : Folding) (F : ℕ → Facts) (i : ℕ) (known : Bool) (s : List ℕ) (all now : List Query) (so_far : now ++ puts_from folding F (8 - i) known s ≡ all) where
  one_round : i < 8 → (put : List Query) → put ≡ now ++ known_puts folding F known s → (r : Option After) → r ≡ after_round folding F s → put ++ puts_at (puts_from folding F (8 - (i + 1))) r ≡ all
  one_round lt put e r next =
      let left : 8 - i ≡ suc (8 - (i + 1)) = omega arith in
      ap (λ q. q ++ puts_at (puts_from folding F (8 - (i + 1))) r) e
      ∙ append_assoc now (known_puts folding F known s) (puts_at (puts_from folding F (8 - (i + 1))) r)
      ∙ ap (λ t. now ++ (known_puts folding F known s ++ puts_at (puts_from folding F (8 - (i + 1))) t)) next
      ∙ ap (λ q. now ++ q) (sym (puts_step folding F (8 - (i + 1)) known s))
      ∙ ap (λ k. now ++ puts_from folding F k known s) (sym left)
      ∙ so_far

  pub rounds_stop : i < 8 → (put : List Query) → put ≡ now ++ known_puts folding F known s → None ≡ after_round folding F s → put ≡ all
  rounds_stop lt put e next = sym (append-nil put) ∙ one_round lt put e None next

  pub rounds_more : i < 8 → (put : List Query) → put ≡ now ++ known_puts folding F known s → (a : After) → Some a ≡ after_round folding F s → put ++ puts_from folding F (8 - (i + 1)) a.known a.list ≡ all
  rounds_more lt put e a next = one_round lt put e (Some a) next

  pub rounds_end : 8 ≤ i → now ≡ all
  rounds_end past =
      let none : 8 - i ≡ 0 = omega arith in
      sym (append-nil now) ∙ ap (λ q. now ++ q) (sym (puts_none folding F known s)) ∙ ap (λ k. now ++ puts_from folding F k known s) (sym none) ∙ so_far
