-- Locality of the folding rounds.
-- same_rounds, same_foldings   the laws of the same names
-- fold_same, folded_same       the folded list, by the full folding and by either
-- Each-range, Each-places      what holds of the lists of a range of numbers holds of the list of each, and of each what holds
--                              of all
use Rattle.std.proofs.Common.{◌≡◌, ℕ, zero, suc, ◌+◌, ◌<◌, ◌≤◌, Bool, true, false, cond, not, nat_le, List, [], ◌∷◌, ◌++◌, length, Option, Some, None, Result, Ok, Err, refl, sym, ap, ◌∙◌, subst, arith, inl, inr, option_and_then}
use Rattle.std.specs.List.{flat_map, range_with_len}
use Rattle.std.proofs.lemmas.Bool.{cases_lt}
use Rattle.std.proofs.lemmas.Option.{cond_some}
use Rattle.ucd_model.specs.Casing.{fold_of, fold, folded}
use Rattle.ucd_facts.specs.CompositeProofs.{Least, find_least, find_first}
use Rattle.ucd_facts.specs.Facts.{Facts, image_points}
use Rattle.ucd_model.specs.FoldRounds.{drop_ignorable, short, short_form, short_nfkc, short_fold, round, rounds, is_list, is_fixed, is_last}
use Rattle.ucd_model.specs.Forms.{nfkc}
use Rattle.ucd_facts.specs.Predicates.{default_ignorable}
use Rattle.ucd_facts.specs.declared.folding.Folding.{Folding}
use Rattle.ucd_facts.specs.declared.folding.Folding.TheVariants.{Full, Simple}
use Rattle.ucd_facts.specs.declared.form.Bad.{Bad as Rule}
use Rattle.ucd_facts.specs.Answers.{SameAnswer, Each}
use Rattle.query_laws.specs.ExpansionProofs.{SameRows, rows_same}
use Rattle.query_laws.specs.FormProofs.{form_same, composed_rows}
use Rattle.query_laws.specs.Laws.{SameRound, SameRounds, SameFolding, SameFoldings}
use Rattle.query_laws.specs.ListProofs.{Each-left, Each-right, Each-to, filter-same, flat_map-same, map-same}
use Rattle.query_laws.specs.Questions.{row_queries, asks, folding_asks, round_asks, round_asks_at, last_round, rounds_ask}

-- ---- optional lists

then_same : (f g : List ℕ → Option (List ℕ)) (r : Option (List ℕ)) → ((xs : List ℕ) → r ≡ Some xs → f xs ≡ g xs) → option_and_then f r ≡ option_and_then g r
then_same f g (Some xs) e = e xs refl
then_same f g None e = refl

short_list : (xs ys : List ℕ) → short xs ≡ Some ys → xs ≡ ys
short_list xs ys e = (cond_some (nat_le (length xs) 255) xs ys e).1

then_short : (f : List ℕ → List ℕ) (xs ys : List ℕ) (b : Bool) → option_and_then (λ zs. short (f zs)) (cond b (Some xs) None) ≡ Some ys → f xs ≡ ys
then_short f xs ys true e = short_list (f xs) ys e
then_short f xs ys false e = cc

-- ---- one round

pub fold_same : (F G : ℕ → Facts) (xs : List ℕ) → SameRows F G xs → fold G xs ≡ fold F xs
fold_same F G xs e = flat_map-same (fold_of G) (fold_of F) xs (Each-to (λ x. F x ≡ G x) (λ x. fold_of G x ≡ fold_of F x) (λ x same. ap (λ (facts : Facts). image_points x facts.fold) (sym same)) xs e)

-- the folded list is the same over facts with the same rows
pub folded_same : (folding : Folding) (F G : ℕ → Facts) (xs : List ℕ) → SameRows F G xs → folded folding G xs ≡ folded folding F xs
folded_same Full F G xs e = fold_same F G xs e
folded_same Simple F G xs e = map-same (λ x. (G x).simple_fold) (λ x. (F x).simple_fold) xs (Each-to (λ x. F x ≡ G x) (λ x. (G x).simple_fold ≡ (F x).simple_fold) (λ x same. ap (λ (facts : Facts). facts.simple_fold) (sym same)) xs e)

module _ (folding : Folding) (F G : ℕ → Facts) where
  drop_same : (xs : List ℕ) → SameRows F G xs → drop_ignorable G xs ≡ drop_ignorable F xs
  drop_same xs e = filter-same (λ x. not (default_ignorable x (G x))) (λ x. not (default_ignorable x (F x))) xs (Each-to (λ x. F x ≡ G x) (λ x. not (default_ignorable x (G x)) ≡ not (default_ignorable x (F x))) (λ x same. ap (λ (facts : Facts). not (default_ignorable x facts)) (sym same)) xs e)

  record SameAfter (r : Result (List ℕ) Rule) : Type 0 where
    folded : option_and_then (short_fold folding G) (short_form r) ≡ option_and_then (short_fold folding F) (short_form r)
    next : option_and_then (short_nfkc G) (option_and_then (short_fold folding G) (short_form r)) ≡ option_and_then (short_nfkc F) (option_and_then (short_fold folding F) (short_form r))
    asking : folding_asks folding G r ≡ folding_asks folding F r

  after_same : (r : Result (List ℕ) Rule) → ((xs : List ℕ) → r ≡ Ok xs → SameRows F G xs) → Each (SameAnswer F G) (folding_asks folding F r) → SameAfter r
  after_same (Ok xs) rows a =
      let image : List ℕ = folded folding F xs in
      let left : List ℕ = drop_ignorable F image in
      let same : folded folding G xs ≡ image = folded_same folding F G xs (rows xs refl) in
      let folded_rows = rows_same F G image (Each-left (SameAnswer F G) (row_queries image) (asks F true left) a) in
      let dropped : drop_ignorable G (folded folding G xs) ≡ left = ap (drop_ignorable G) same ∙ drop_same image folded_rows in
      let form = form_same F G true left (Each-right (SameAnswer F G) (row_queries image) (asks F true left) a) in
      let lists : option_and_then (short_fold folding G) (short xs) ≡ option_and_then (short_fold folding F) (short xs) = then_same (short_fold folding G) (short_fold folding F) (short xs) (λ ys e. subst (λ zs. short_fold folding G zs ≡ short_fold folding F zs) (short_list xs ys e) (ap short dropped)) in
      record {
        folded = lists;
        next = ap (option_and_then (short_nfkc G)) lists
            ∙ then_same (short_nfkc G) (short_nfkc F) (option_and_then (short_fold folding F) (short xs)) (λ ys e. subst (λ zs. short_nfkc G zs ≡ short_nfkc F zs) (then_short (λ zs. drop_ignorable F (folded folding F zs)) xs ys (nat_le (length xs) 255) e) (ap short_form form.composition));
        asking = ap (λ t. row_queries t ++ asks G true (drop_ignorable G t)) same
            ∙ ap (λ t. row_queries image ++ asks G true t) (drop_same image folded_rows)
            ∙ ap (λ t. row_queries image ++ t) form.asks;
      }
  after_same (Err rule) rows a = record { folded = refl; next = refl; asking = refl }

  round_same : (s : List ℕ) → Each (SameAnswer F G) (round_asks folding F s) → SameRound folding F G s
  round_same s a =
      let first : Each (SameAnswer F G) (asks F true s) = Each-left (SameAnswer F G) (asks F true s) (folding_asks folding F (nfkc F s)) a in
      let form = form_same F G true s first in
      let after = after_same (nfkc F s) (composed_rows F G true s first) (Each-right (SameAnswer F G) (asks F true s) (folding_asks folding F (nfkc F s)) a) in
      record {
        form = ap short_form form.composition;
        folded = ap (λ r. option_and_then (short_fold folding G) (short_form r)) form.composition ∙ after.folded;
        next = ap (λ r. option_and_then (short_nfkc G) (option_and_then (short_fold folding G) (short_form r))) form.composition ∙ after.next;
        asks = ap (λ t. t ++ folding_asks folding G (nfkc G s)) form.asks
            ∙ ap (λ r. asks F true s ++ folding_asks folding G r) form.composition
            ∙ ap (λ t. asks F true s ++ t) after.asking;
      }

  -- ---- all rounds

  next_same : (r : Option (List ℕ)) → Each (SameAnswer F G) (round_asks_at folding F r) → option_and_then (round folding G) r ≡ option_and_then (round folding F) r
  next_same (Some s) a = (round_same s a).next
  next_same None a = refl

  asks_same : (r : Option (List ℕ)) → Each (SameAnswer F G) (round_asks_at folding F r) → round_asks_at folding G r ≡ round_asks_at folding F r
  asks_same (Some s) a = (round_same s a).asks
  asks_same None a = refl

  fixed_same : (r : Option (List ℕ)) → Each (SameAnswer F G) (round_asks_at folding F r) → is_fixed folding G r ≡ is_fixed folding F r
  fixed_same (Some s) a = ap (is_list s) (round_same s a).next
  fixed_same None a = refl

pub same_rounds : SameRounds
same_rounds folding F G s a = round_same folding F G s a

-- ---- a range of rounds

pub Each-range : {A : Type 0} (P : A → Type 0) (f : ℕ → List A) (a m : ℕ) → Each P (flat_map f (range_with_len a m)) → (i : ℕ) → a ≤ i → i < a + m → Each P (f i)
Each-range P f a zero e i from below = absurd (omega arith)
Each-range P f a (suc m) e i from below =
    elim (cases_lt a i) [
      | inl past ↦ Each-range P f (a + 1) m (Each-right P (f a) (flat_map f (range_with_len (a + 1) m)) e) i (omega arith) (omega arith)
      | inr le ↦ let same : a ≡ i = omega arith in subst (λ k. Each P (f k)) same (Each-left P (f a) (flat_map f (range_with_len (a + 1) m)) e)
    ]

pub Each-places : (P : ℕ → Type 0) (a m : ℕ) → ((i : ℕ) → a ≤ i → i < a + m → P i) → Each P (range_with_len a m)
Each-places P a zero each = tt
Each-places P a (suc m) each = (each a (omega arith) (omega arith), Each-places P (a + 1) m (λ i from below. each i (omega arith) (omega arith)))

module _ (folding : Folding) (F G : ℕ → Facts) (c n : ℕ) (last : last_round folding F c ≡ Some n) (a : Each (SameAnswer F G) (rounds_ask folding F c (Some n))) where
  asked_at : (i : ℕ) → i ≤ n → Each (SameAnswer F G) (round_asks_at folding F (rounds folding F i (c ∷ [])))
  asked_at i le = Each-range (SameAnswer F G) (λ i. round_asks_at folding F (rounds folding F i (c ∷ []))) 0 (suc n) a i (omega arith) (omega arith)

  lists_same : (i : ℕ) → i ≤ suc n → rounds folding G i (c ∷ []) ≡ rounds folding F i (c ∷ [])
  lists_same zero le = refl
  lists_same (suc i) le = ap (option_and_then (round folding G)) (lists_same i (omega arith)) ∙ next_same folding F G (rounds folding F i (c ∷ [])) (asked_at i (omega arith))

  last_same : (i : ℕ) → i ≤ n → is_last folding G c i ≡ is_last folding F c i
  last_same i le = ap (is_fixed folding G) (lists_same i (omega arith)) ∙ fixed_same folding F G (rounds folding F i (c ∷ [])) (asked_at i le)

  least : Least (is_last folding F c) 0 8 (Some n)
  unfolding last_round
  least = subst (Least (is_last folding F c) 0 8) last (find_least (is_last folding F c) 0 8 8 (omega arith))

  round_is_last : last_round folding G c ≡ Some n
  unfolding last_round
  round_is_last = find_first (is_last folding G c) 8 n least.1 (last_same n (omega arith) ∙ least.2) (λ k below. last_same k (omega arith) ∙ least.3 k (omega arith) below)

  questions_same : rounds_ask folding G c (Some n) ≡ rounds_ask folding F c (Some n)
  questions_same = flat_map-same (λ i. round_asks_at folding G (rounds folding G i (c ∷ []))) (λ i. round_asks_at folding F (rounds folding F i (c ∷ []))) (range_with_len 0 (suc n))
      (Each-places (λ i. round_asks_at folding G (rounds folding G i (c ∷ [])) ≡ round_asks_at folding F (rounds folding F i (c ∷ []))) 0 (suc n) (λ i from below. ap (round_asks_at folding G) (lists_same i (omega arith)) ∙ asks_same folding F G (rounds folding F i (c ∷ [])) (asked_at i (omega arith))))

  pub folding_same : SameFolding folding F G c n
  folding_same = record { lists = lists_same; last = round_is_last; asks = questions_same }

pub same_foldings : SameFoldings
same_foldings folding F G c n last a = folding_same folding F G c n last a
