-- Rounds of folding, and which list is found.
--
-- F is the facts of each code point, and `folding` the full or the simple folding. A last number is one that `is_last` names.
-- found_none      where no number from 0 to 7 is a last one, no list is found
-- found_stop      where i rounds give a list, one more round gives none, and no number below i is a last one, no list is found
-- found_same      where i rounds, at most 7, give a list, and one more round a list with the same members, that list is found
-- found_first_none   if the first round gives no list, no list is found
-- found_settled   if it gives the NFKC of a settled list, and that is the same list, it is found
-- found_form      if the NFKC of c is settled, and no member of it has a canonical mapping, that NFKC is found
-- folded_round    the first round is the NFKC of the short_fold of the NFKC of c
-- settled_round   if that NFKC is settled, the first round is the NFKC of it
-- alone_image     where NFKC and the folding leave c alone as it is, its image is the empty list, if c is ignorable, and else Same
-- unfolded        where a view shows that c is its own folding, c alone folds to itself alone
-- ignored         c is ignorable exactly where the facts that a view shows of it say so
-- alone_form      where the NFKC of c alone is a list with the members of c alone, it is c alone
-- fixed_is_found, found_is_fixed   the laws of the same names
use Rattle.std.proofs.Common.{◌≡◌, ℕ, zero, suc, ◌+◌, ◌==◌, ◌<◌, ◌≤◌, Bool, true, false, cond, not, nat_le, List, [], ◌∷◌, ◌++◌, length, Option, Some, None, Result, Ok, Err, refl, sym, ap, ◌∙◌, subst, arith, add-one, ◌⊎◌, inl, inr, option_and_then, bytes_eq}
use Rattle.std.specs.List.{list_all}
use Rattle.std.proofs.lemmas.Bool.{cases_lt, eqb-true, and_parts}
use Rattle.std.proofs.lemmas.Bool.Decides.{nat_tests}
use Rattle.std.proofs.lemmas.Slice.Eq.{bytes_eq-Decides}
use Rattle.std.proofs.lemmas.Option.{same_Some}
use Rattle.ucd_facts.specs.CompositeProofs.{find_first, find_none_below}
use Rattle.ucd_model.specs.Casing.{fold, folded}
use Rattle.ucd_facts.specs.Facts.{Facts, image_points}
use Rattle.ucd_facts.specs.declared.image.Image.{Image}
use Rattle.ucd_facts.specs.declared.image.Image.TheVariants.{Same, To}
use Rattle.ucd_model.specs.FoldRounds.{drop_ignorable, short, short_form, short_nfkc, short_fold, round, rounds, is_list, is_fixed, is_last, casefold, image_or_rule, casefold_image}
use Rattle.ucd_model.specs.Forms.{nfkc}
use Rattle.ucd_facts.specs.Predicates.{default_ignorable}
use Rattle.ucd_facts.specs.Shown.{shown_facts}
use Rattle.ucd_facts.specs.declared.folding.Folding.{Folding}
use Rattle.ucd_facts.specs.declared.folding.Folding.TheVariants.{Full, Simple}
use Rattle.ucd_facts.specs.declared.form.Bad.{Bad as Rule}
use Rattle.ucd_facts.specs.declared.view.FactsRef.{FactsRef}
use Rattle.ucd_facts.specs.Unmapped.{is_same}
use Rattle.fold_rounds.specs.ComposedProofs.{form_twice}
use Rattle.fold_rounds.specs.Steps.{folded_form, has_composite, is_own, is_settled}
use Rattle.fold_rounds.specs.RoundLaws.{IsFixed, FixedIsFound, FoundIsFixed}

-- ---- lists

-- ---- one round of a list with a known form

round_known : (folding : Folding) (F : ℕ → Facts) (s form : List ℕ) → nfkc F s ≡ Ok form → length form ≤ 255 → round folding F s ≡ folded_form folding F form
round_known folding F s form e few =
    let test : nat_le (length form) 255 ≡ true = grind (arith, nat_tests) in
    ap (λ r. option_and_then (short_nfkc F) (option_and_then (short_fold folding F) (short_form r))) e ∙ ap (λ b. option_and_then (short_nfkc F) (option_and_then (short_fold folding F) (cond b (Some form) None))) test

-- ---- settled lists

own_image : (c : ℕ) (i : Image) → is_same i ≡ true → image_points c i ≡ c ∷ []
own_image c Same e = refl
own_image c (To points) e = cc

-- a member that is its own folding stays in the folded list
own_first : (folding : Folding) (F : ℕ → Facts) (x : ℕ) (s : List ℕ) → is_own x (F x) ≡ true → folded folding F (x ∷ s) ≡ x ∷ folded folding F s
own_first Full F x s e = ap (λ xs. xs ++ fold F s) (own_image x (F x).fold (and_parts (is_same (F x).fold) ((F x).simple_fold == x) e).0)
own_first Simple F x s e = ap (λ (y : ℕ). y ∷ folded Simple F s) (eqb-true (F x).simple_fold x (and_parts (is_same (F x).fold) ((F x).simple_fold == x) e).1)

folded_none : (folding : Folding) (F : ℕ → Facts) → folded folding F [] ≡ []
folded_none Full F = refl
folded_none Simple F = refl

settled_fold : (folding : Folding) (F : ℕ → Facts) (s : List ℕ) → list_all (λ x. is_settled x (F x)) s ≡ true → drop_ignorable F (folded folding F s) ≡ s
settled_fold folding F [] e = ap (drop_ignorable F) (folded_none folding F)
settled_fold folding F (x ∷ s) e =
    let parts = and_parts (is_settled x (F x)) (list_all (λ y. is_settled y (F y)) s) e in
    let own = and_parts (is_own x (F x)) (not (default_ignorable x (F x))) parts.0 in
    let rest : List ℕ = drop_ignorable F (folded folding F s) in
    ap (drop_ignorable F) (own_first folding F x s own.0) ∙ ap (λ b. cond b (x ∷ rest) rest) own.1 ∙ ap (λ zs. x ∷ zs) (settled_fold folding F s parts.1)

-- what is short once is short again
short_if : (t : Bool) (s list : List ℕ) → nat_le (length s) 255 ≡ t → cond t (Some s) None ≡ Some list → short list ≡ Some list
short_if true s list few e = let same : s ≡ list = same_Some s list e in subst (λ zs. short zs ≡ Some zs) same (ap (λ b. cond b (Some s) None) few)
short_if false s list few e = cc

form_is_short : (r : Result (List ℕ) Rule) (list : List ℕ) → short_form r ≡ Some list → short list ≡ Some list
form_is_short (Ok s) list e = short_if (nat_le (length s) 255) s list refl e
form_is_short (Err rule) list e = cc

-- ---- the first round

pub folded_round : (folding : Folding) (F : ℕ → Facts) (c : ℕ) (form : List ℕ) (folded : Option (List ℕ)) → nfkc F (c ∷ []) ≡ Ok form → length form ≤ 255 → short_fold folding F form ≡ folded
    → round folding F (c ∷ []) ≡ option_and_then (short_nfkc F) folded
folded_round folding F c form folded e few f = round_known folding F (c ∷ []) form e few ∙ ap (option_and_then (short_nfkc F)) f

pub settled_round : (folding : Folding) (F : ℕ → Facts) (c : ℕ) (form : List ℕ) → nfkc F (c ∷ []) ≡ Ok form → length form ≤ 255 → list_all (λ x. is_settled x (F x)) form ≡ true → round folding F (c ∷ []) ≡ short_nfkc F form
settled_round folding F c form e few settled =
    let test : nat_le (length form) 255 ≡ true = grind (arith, nat_tests) in
    folded_round folding F c form (Some form) e few (ap short (settled_fold folding F form settled) ∙ ap (λ b. cond b (Some form) None) test)

-- ---- which rounds are last

module _ (folding : Folding) (F : ℕ → Facts) (c : ℕ) where
  -- one more round
  rounds_more : (i : ℕ) (s : List ℕ) (next : Option (List ℕ)) → rounds folding F i (c ∷ []) ≡ Some s → round folding F s ≡ next → rounds folding F (i + 1) (c ∷ []) ≡ next
  rounds_more i s next e r = rw add-one (ap (option_and_then (round folding F)) e ∙ r)

  last_here : (i : ℕ) (s : List ℕ) → rounds folding F i (c ∷ []) ≡ Some s → round folding F s ≡ Some s → is_last folding F c i ≡ true
  last_here i s e r = ap (is_fixed folding F) e ∙ ap (is_list s) r ∙ (bytes_eq-Decides s s).1 refl

  not_last_none : (i : ℕ) → rounds folding F i (c ∷ []) ≡ None → is_last folding F c i ≡ false
  not_last_none i e = ap (is_fixed folding F) e

  not_last_stop : (i : ℕ) (s : List ℕ) → rounds folding F i (c ∷ []) ≡ Some s → round folding F s ≡ None → is_last folding F c i ≡ false
  not_last_stop i s e r = ap (is_fixed folding F) e ∙ ap (is_list s) r

  list_stays : (s : List ℕ) (r : Option (List ℕ)) → is_list s r ≡ true → r ≡ Some s
  list_stays s (Some t) e = ap (λ zs. Some zs) ((bytes_eq-Decides t s).0 e)
  list_stays s None e = cc

  fixed_parts : (r : Option (List ℕ)) → is_fixed folding F r ≡ true → (s : List ℕ) × (r ≡ Some s) × (round folding F s ≡ Some s)
  fixed_parts (Some s) e = (s, refl, list_stays s (round folding F s) e)
  fixed_parts None e = cc

  -- after a last round every round gives the same list, and after none no round gives any
  rounds_stay : (s : List ℕ) → round folding F s ≡ Some s → (i k : ℕ) → i ≤ k → rounds folding F i (c ∷ []) ≡ Some s → rounds folding F k (c ∷ []) ≡ Some s
  rounds_stay s r zero zero le e = e
  rounds_stay s r (suc i) zero le e = absurd (omega arith)
  rounds_stay s r i (suc k) le e =
      elim (cases_lt k i) [
        | inl lt ↦ let same : suc k ≡ i = omega arith in ap (λ n. rounds folding F n (c ∷ [])) same ∙ e
        | inr le' ↦ ap (option_and_then (round folding F)) (rounds_stay s r i k le' e) ∙ r
      ]

  rounds_stop : (i k : ℕ) → i ≤ k → rounds folding F i (c ∷ []) ≡ None → rounds folding F k (c ∷ []) ≡ None
  rounds_stop zero zero le e = e
  rounds_stop (suc i) zero le e = absurd (omega arith)
  rounds_stop i (suc k) le e =
      elim (cases_lt k i) [
        | inl lt ↦ let same : suc k ≡ i = omega arith in ap (λ n. rounds folding F n (c ∷ [])) same ∙ e
        | inr le' ↦ ap (option_and_then (round folding F)) (rounds_stop i k le' e)
      ]

  -- ---- which list is found

  abbrev First : ℕ → Type 0
  First n = (q : ℕ) × (q < n) × (is_last folding F c q ≡ true) × ((k : ℕ) → k < q → is_last folding F c k ≡ false)

  one_more : (n : ℕ) → ((k : ℕ) → k < n → is_last folding F c k ≡ false) → is_last folding F c n ≡ false → (k : ℕ) → k < n + 1 → is_last folding F c k ≡ false
  one_more n before here k lt =
      elim (cases_lt k n) [
        | inl past ↦ before k past
        | inr le ↦ let same : k ≡ n = omega arith in ap (is_last folding F c) same ∙ here
      ]

  first_at : (n : ℕ) → ((k : ℕ) → k < n → is_last folding F c k ≡ false) → (t : Bool) → is_last folding F c n ≡ t → ((k : ℕ) → k < suc n → is_last folding F c k ≡ false) ⊎ First (suc n)
  first_at n before true e = inr (n, omega arith, e, before)
  first_at n before false e = inl (λ k lt. one_more n before e k (omega arith))

  first_or_none : (n : ℕ) → ((k : ℕ) → k < n → is_last folding F c k ≡ false) ⊎ First n
  first_or_none zero = inl (λ k lt. absurd (omega arith))
  first_or_none (suc n) =
      elim (first_or_none n) [
        | inl before ↦ first_at n before (is_last folding F c n) refl
        | inr q ↦ inr (q.0, omega (arith, q.1), q.2, q.3)
      ]

  pub found_none : ((k : ℕ) → k < 8 → is_last folding F c k ≡ false) → casefold folding F c ≡ None
  found_none absent = ap (option_and_then (λ i. rounds folding F i (c ∷ []))) (find_none_below (is_last folding F c) 8 absent)

  found_first : (q : First 8) → casefold folding F c ≡ rounds folding F q.0 (c ∷ [])
  found_first q = ap (option_and_then (λ i. rounds folding F i (c ∷ []))) (find_first (is_last folding F c) 8 q.0 q.1 q.2 q.3)

  -- a round stops the rounds, and no list before it is left as it is
  pub found_stop : (i : ℕ) (s : List ℕ) → rounds folding F i (c ∷ []) ≡ Some s → round folding F s ≡ None → ((k : ℕ) → k < i → is_last folding F c k ≡ false) → casefold folding F c ≡ None
  found_stop i s e r before =
      found_none (λ k lt. elim (cases_lt i k) [
        | inl past ↦ not_last_none k (rounds_stop (i + 1) k (omega arith) (rounds_more i s None e r))
        | inr le ↦ one_more i before (not_last_stop i s e r) k (omega arith)
      ])

  found_is : (s : List ℕ) (i : ℕ) → i < 8 → rounds folding F i (c ∷ []) ≡ Some s → round folding F s ≡ Some s → casefold folding F c ≡ Some s
  found_is s i few e r =
      elim (first_or_none 8) [
        | inl absent ↦ let t = last_here i s e r in let f = absent i few in cc
        | inr q ↦
            let parts = fixed_parts (rounds folding F q.0 (c ∷ [])) q.2 in
            found_first q ∙ elim (cases_lt i q.0) [
              | inl lt ↦ let t = last_here i s e r in let f = q.3 i lt in cc
              | inr le ↦ parts.1 ∙ sym (rounds_stay parts.0 parts.2 q.0 i le parts.1) ∙ e
            ]
      ]

  pub found_same : (i : ℕ) (s t : List ℕ) → i < 8 → rounds folding F i (c ∷ []) ≡ Some s → round folding F s ≡ Some t → bytes_eq t s ≡ true → casefold folding F c ≡ Some t
  found_same i s t few e r test =
      let same : t ≡ s = (bytes_eq-Decides t s).0 test in
      found_is t i few (e ∙ ap (λ zs. Some zs) (sym same)) (ap (round folding F) same ∙ r)

  pub found_first_none : round folding F (c ∷ []) ≡ None → casefold folding F c ≡ None
  found_first_none r = found_stop 0 (c ∷ []) refl r (λ k lt. absurd (omega arith))

  pub found_settled : (folded list : List ℕ) → round folding F (c ∷ []) ≡ Some list → short_nfkc F folded ≡ Some list → list_all (λ x. is_settled x (F x)) folded ≡ true → bytes_eq list folded ≡ true
      → casefold folding F c ≡ Some list
  found_settled folded list r k settled test =
      let same : folded ≡ list = sym ((bytes_eq-Decides list folded).0 test) in
      let own : short_nfkc F list ≡ Some list = ap (short_nfkc F) (sym same) ∙ k in
      let folds : short_fold folding F list ≡ Some list = ap (short_fold folding F) (sym same) ∙ ap short (settled_fold folding F folded settled) ∙ ap short same ∙ form_is_short (nfkc F folded) list k in
      let again : round folding F list ≡ Some list = ap (λ r. option_and_then (short_nfkc F) (option_and_then (short_fold folding F) r)) own ∙ ap (option_and_then (short_nfkc F)) folds ∙ own in
      found_is list 1 (omega arith) r again

  pub found_form : (form : List ℕ) → nfkc F (c ∷ []) ≡ Ok form → length form ≤ 255 → list_all (λ x. is_settled x (F x)) form ≡ true → has_composite F form ≡ false → casefold folding F c ≡ Some form
  found_form form e few settled none =
      let test : nat_le (length form) 255 ≡ true = grind (arith, nat_tests) in
      let own : short_nfkc F form ≡ Some form = ap short_form (form_twice F (c ∷ []) form e none) ∙ ap (λ b. cond b (Some form) None) test in
      found_settled form form (settled_round folding F c form e few settled ∙ own) own settled ((bytes_eq-Decides form form).1 refl)

  found_fixed : (s : List ℕ) → casefold folding F c ≡ Some s → (i : ℕ) × IsFixed folding F c i s
  found_fixed s e =
      elim (first_or_none 8) [
        | inl absent ↦ let none = found_none absent in cc
        | inr q ↦
            let parts = fixed_parts (rounds folding F q.0 (c ∷ [])) q.2 in
            let is : rounds folding F q.0 (c ∷ []) ≡ Some s = sym (found_first q) ∙ e in
            let same : parts.0 ≡ s = same_Some parts.0 s (sym parts.1 ∙ is) in
            (q.0, record { few = q.1; reached = is; stays = rw (sym same) parts.2 })
      ]

pub fixed_is_found : FixedIsFound
fixed_is_found folding F c i s fixed = found_is folding F c s i fixed.few fixed.reached fixed.stays

pub found_is_fixed : FoundIsFixed
found_is_fixed folding F c s e = found_fixed folding F c s e

-- ---- a point that neither its form nor its folding changes

kept_unless : (c : ℕ) (t : Bool) → short (cond (not t) (c ∷ []) []) ≡ Some (cond t [] (c ∷ []))
kept_unless c true = refl
kept_unless c false = refl

module _ (folding : Folding) (F : ℕ → Facts) (c : ℕ) (form : nfkc F (c ∷ []) ≡ Ok (c ∷ [])) (folds : folded folding F (c ∷ []) ≡ c ∷ []) where
  alone_fold : (t : Bool) → default_ignorable c (F c) ≡ t → short_fold folding F (c ∷ []) ≡ Some (cond t [] (c ∷ []))
  alone_fold t e = ap (λ zs. short (drop_ignorable F zs)) folds ∙ ap (λ b. short (cond (not b) (c ∷ []) [])) e ∙ kept_unless c t

  alone_same : default_ignorable c (F c) ≡ false → casefold_image folding F c ≡ Ok Same
  alone_same e =
      let once : round folding F (c ∷ []) ≡ Some (c ∷ []) = round_known folding F (c ∷ []) (c ∷ []) form (omega arith) ∙ ap (option_and_then (short_nfkc F)) (alone_fold false e) ∙ ap short_form form in
      ap (image_or_rule c) (found_is folding F c (c ∷ []) 0 (omega arith) refl once) ∙ ap (λ b. Ok (cond b Same (To (c ∷ [])))) ((bytes_eq-Decides (c ∷ []) (c ∷ [])).1 refl)

  alone_ignored : default_ignorable c (F c) ≡ true → casefold_image folding F c ≡ Ok (To [])
  alone_ignored e =
      let once : round folding F (c ∷ []) ≡ Some [] = round_known folding F (c ∷ []) (c ∷ []) form (omega arith) ∙ ap (option_and_then (short_nfkc F)) (alone_fold true e) in
      ap (image_or_rule c) (found_is folding F c [] 1 (omega arith) once (ap (λ zs. option_and_then (short_nfkc F) (short (drop_ignorable F zs))) (folded_none folding F)))

  pub alone_image : (t : Bool) → default_ignorable c (F c) ≡ t → casefold_image folding F c ≡ Ok (cond t (To []) Same)
  alone_image true e = alone_ignored e
  alone_image false e = alone_same e

-- ---- the same, from what a view shows of it

pub unfolded : (folding : Folding) (F : ℕ → Facts) (c : ℕ) (shown : FactsRef) → shown_facts shown ≡ F c → is_own c (shown_facts shown) ≡ true → folded folding F (c ∷ []) ≡ c ∷ []
unfolded folding F c shown shows e = own_first folding F c [] (ap (is_own c) (sym shows) ∙ e) ∙ ap (λ zs. c ∷ zs) (folded_none folding F)

pub ignored : (F : ℕ → Facts) (c : ℕ) (shown : FactsRef) (t : Bool) → shown_facts shown ≡ F c → t ≡ default_ignorable c (shown_facts shown) → default_ignorable c (F c) ≡ t
ignored F c shown t shows e = ap (default_ignorable c) (sym shows) ∙ sym e

pub alone_form : (F : ℕ → Facts) (c : ℕ) (form : List ℕ) → nfkc F (c ∷ []) ≡ Ok form → bytes_eq form (c ∷ []) ≡ true → nfkc F (c ∷ []) ≡ Ok (c ∷ [])
alone_form F c form e test = e ∙ ap (λ zs. Ok zs) ((bytes_eq-Decides form (c ∷ [])).0 test)
