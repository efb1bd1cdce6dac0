-- What is seen point by point tells what an edit changes.
use Rattle.std.proofs.Common.{◌≡◌, ℕ, ◌+◌, ◌%◌, ◌<◌, ◌≤◌, nat_lt, Bool, true, false, cond, ◌&&◌, ◌||◌, not, ◌==◌, List, [], ◌∷◌, ◌++◌, length, take, get_or, refl, sym, ap, subst, ◌∙◌, find, arith, inl, inr}
use mathlib.Core.Path.{fun_ext}
use Rattle.std.specs.Bool.{Decides, beq}
use Rattle.std.specs.Cmp.{booleans_Decides, both_ways as same_from_both}
use Rattle.std.specs.List.{list_any, range_with_len}
use Rattle.number_sets.specs.Keys.{has}
use Rattle.std.proofs.lemmas.Bool.{true≢false, both_ways, cases_lt, or_left, or_right, or_cases, and_from, and_parts, eq-eqb, eqb-true, false_from_ne_true}
use Rattle.std.proofs.lemmas.Bool.Decides.{nat_tests}
use Rattle.std.proofs.lemmas.List.Folds.{list_any-append, list_any_more}
use Rattle.std.proofs.Math.Bool.{and-false}
use Rattle.ucd_facts.specs.Answers.{SameAnswer, TellsChanges, is_asked, same_query}
use Rattle.ucd_facts.specs.AnswerProofs.{queries_are_told}
use Rattle.ucd_points.specs.Bounds.{Bounds}
use Rattle.ucd_facts.specs.Composites.{is_canonical, first_has_class_zero, primary, is_pair, is_second, composes, ends_with, pair_of, second_of}
use Rattle.ucd_facts.specs.Facts.{Facts, within}
use Rattle.ucd_points.specs.Limits.{point_count}
use Rattle.ucd_facts.specs.declared.query.Query.{Query}
use Rattle.ucd_facts.specs.declared.query.Query.TheVariants.{Row, Pair, Second}
use Rattle.fact_tables.specs.Changes.{StaysOutside, is_among, is_pair_of, is_reached, first_differs, composes_either, IsTold, IsOnlyChanged, Gathers, Grows, ReachesOwn, IsSeen, IsDone, AreReached}
use Rattle.fact_tables.specs.Index.{Lists, is_listed, pair_key, first_key}
use Rattle.fact_tables.specs.KeptFacts.{all_kept}
use Rattle.fact_tables.specs.Rest.{RestOf}
use Rattle.fact_tables.specs.declared.pair_index.PairIndex.{PairIndex}
use Rattle.fact_tables.specs.declared.reached.Reached.{Reached}
use Rattle.fact_tables.proofs.IndexLemmas.{low_of, high_of, pair_members, pair_candidate}
use Rattle.fact_tables.proofs.TableLemmas.{pair_inside}

-- ---- tests

-- what is not asked of more was not asked of less
not_before : (a b : Bool) → (a ≡ true → b ≡ true) → b ≡ false → a ≡ false
not_before a b f none = false_from_ne_true a (λ is. true≢false (sym (f is) ∙ none))

-- ---- questions that are put one by one

module _ (F G : ℕ → Facts) where
  pub gathers_same : (Q : List Query) → Gathers F G Q Q
  gathers_same Q = record { asked = λ q is. is; only = λ only. only }

  pub gathers_more : (a b c : List Query) → Gathers F G a b → Gathers F G b c → Gathers F G a c
  gathers_more a b c first second = record { asked = λ q is. second.asked q (first.asked q is); only = λ only. second.only (first.only only) }

  pub told_grows : (old new : List Query) (q : Query) → Gathers F G old new → IsTold F G old q → IsTold F G new q
  told_grows old new q more told none = told (not_before (is_asked old q) (is_asked new q) (more.asked q) none)

  put_only : (old : List Query) (q : Query) → ¬ SameAnswer F G q → IsOnlyChanged F G old → IsOnlyChanged F G (old ++ q ∷ [])
  put_only old q other only r is =
      elim (or_cases (is_asked old r) (is_asked (q ∷ []) r) (sym (list_any-append (same_query r) old (q ∷ [])) ∙ is)) [
        | inl before ↦ only r before
        | inr here ↦ elim (or_cases (same_query r q) false here) [
          | inl same ↦ subst (λ (t : Query). ¬ SameAnswer F G t) (sym ((queries_are_told r q).0 same)) other
          | inr never ↦ absurd (true≢false (sym never))
        ]
      ]

  pub gathers_put : (old new : List Query) (q : Query) (same : Bool) → Decides same (SameAnswer F G q) → new ≡ cond same old (old ++ q ∷ []) → Gathers F G old new
  gathers_put old new q true decides e = subst (Gathers F G old) (sym e) (gathers_same old)
  gathers_put old new q false decides e =
      subst (Gathers F G old) (sym e) (record {
        asked = λ r is. list_any-append (same_query r) old (q ∷ []) ∙ or_left (is_asked old r) (is_asked (q ∷ []) r) is;
        only = put_only old q (λ same. true≢false (sym (decides.1 same)));
      })

  pub told_put : (old new : List Query) (q : Query) (same : Bool) → Decides same (SameAnswer F G q) → new ≡ cond same old (old ++ q ∷ []) → IsTold F G new q
  told_put old new q true decides e none = decides.0 refl
  told_put old new q false decides e none =
      absurd (both_ways (is_asked new q) none (ap (λ (Q : List Query). is_asked Q q) e ∙ list_any-append (same_query q) old (q ∷ [])
      ∙ or_right (is_asked old q) (is_asked (q ∷ []) q) (or_left (same_query q q) false ((queries_are_told q q).1 refl))))

pub decides_via : {X : Type 0} (r : Bool) (a b a' b' : X) → a ≡ a' → b ≡ b' → Decides r (a ≡ b) → Decides r (a' ≡ b')
decides_via r a b a' b' first second d = (λ is. sym first ∙ d.0 is ∙ second, λ e. d.1 (first ∙ e ∙ sym second))

-- one more pair is asked about
told_by : (F G : ℕ → Facts) (old new : List Query) (q : Query) (was one : Bool) → (was || one) ≡ true → Gathers F G old new → (was ≡ true → IsTold F G old q) → (one ≡ true → IsTold F G new q) → IsTold F G new q
told_by F G old new q true one either more before here = told_grows F G old new q more (before refl)
told_by F G old new q false one either more before here = here either

pub pair_more : (F G : ℕ → Facts) (pairs : List (ℕ × ℕ)) (i : ℕ) (d : ℕ × ℕ) (s y : ℕ) (old new : List Query) → i < length pairs → is_reached (take (i + 1) pairs) s y ≡ true → Gathers F G old new
    → (is_reached (take i pairs) s y ≡ true → IsTold F G old (Pair s y)) → IsTold F G new (Pair (get_or pairs i d).0 (get_or pairs i d).1) → IsTold F G new (Pair s y)
pair_more F G pairs i d s y old new lt is more before here =
    told_by F G old new (Pair s y) (is_reached (take i pairs) s y) (is_pair_of s y (get_or pairs i d)) (sym (list_any_more (is_pair_of s y) pairs i d lt) ∙ is) more before
    (λ same. let parts = and_parts ((get_or pairs i d).0 == s) ((get_or pairs i d).1 == y) same in
    rw (← eqb-true (get_or pairs i d).0 s parts.0, ← eqb-true (get_or pairs i d).1 y parts.1) here)

-- one more second member is asked about
pub second_more : (F G : ℕ → Facts) (seconds : List ℕ) (i d y : ℕ) (old new : List Query) → i < length seconds → is_among (take (i + 1) seconds) y ≡ true → Gathers F G old new
    → (is_among (take i seconds) y ≡ true → IsTold F G old (Second y)) → IsTold F G new (Second (get_or seconds i d)) → IsTold F G new (Second y)
second_more F G seconds i d y old new lt is more before here =
    told_by F G old new (Second y) (is_among (take i seconds) y) (get_or seconds i d == y) (sym (list_any_more (λ n. n == y) seconds i d lt) ∙ is) more before
    (λ same. subst (λ (n : ℕ). IsTold F G new (Second n)) (eqb-true (get_or seconds i d) y same) here)

-- the second member of one more pair is put
pub seconds_more : (pairs : List (ℕ × ℕ)) (i : ℕ) (d : ℕ × ℕ) (s y : ℕ) (old new : List ℕ) → i < length pairs → is_reached (take (i + 1) pairs) s y ≡ true
    → (is_reached (take i pairs) s y ≡ true → is_among old y ≡ true) → new ≡ old ++ (get_or pairs i d).1 ∷ [] → is_among new y ≡ true
seconds_more pairs i d s y old new lt is before put =
    ap (λ (l : List ℕ). is_among l y) put
    ∙ list_any-append (λ n. n == y) old ((get_or pairs i d).1 ∷ [])
    ∙ elim (or_cases (is_reached (take i pairs) s y) (is_pair_of s y (get_or pairs i d)) (sym (list_any_more (is_pair_of s y) pairs i d lt) ∙ is)) [
      | inl was ↦ or_left (is_among old y) (is_among ((get_or pairs i d).1 ∷ []) y) (before was)
      | inr here ↦ or_right (is_among old y) (is_among ((get_or pairs i d).1 ∷ []) y)
          (or_left ((get_or pairs i d).1 == y) false ((and_parts ((get_or pairs i d).0 == s) ((get_or pairs i d).1 == y) here).1))
    ]

-- ---- points that are seen one by one

pub reaches_grows : (F G : ℕ → Facts) (old new : List (ℕ × ℕ)) (q : ℕ) → Grows old new → ReachesOwn F G old q → ReachesOwn F G new q
reaches_grows F G old new q grows reaches s y is = grows s y (reaches s y is)

seen_grows : (index : PairIndex) (F G : ℕ → Facts) (old new : Reached) (c : ℕ) → Gathers F G old.queries.items new.queries.items → Grows old.pairs.items new.pairs.items
    → IsSeen index F G old c → IsSeen index F G new c
seen_grows index F G old new c more grows seen = record {
  row = told_grows F G old.queries.items new.queries.items (Row c) more seen.row;
  own = reaches_grows F G old.pairs.items new.pairs.items c grows seen.own;
  first = λ differs y q is. reaches_grows F G old.pairs.items new.pairs.items q grows (seen.first differs y q is);
}

pub done_grows : (index : PairIndex) (F G : ℕ → Facts) (old new : Reached) (c : ℕ) → Gathers F G old.queries.items new.queries.items → Grows old.pairs.items new.pairs.items
    → IsDone index F G old c → IsDone index F G new c
done_grows index F G old new c more grows (inl same) = inl same
done_grows index F G old new c more grows (inr seen) = inr (seen_grows index F G old new c more grows seen)

done_by : (index : PairIndex) (F G : ℕ → Facts) (old new : Reached) (c : ℕ) (was one : Bool) → (was || one) ≡ true → Gathers F G old.queries.items new.queries.items → Grows old.pairs.items new.pairs.items
    → (was ≡ true → IsDone index F G old c) → (one ≡ true → IsDone index F G new c) → IsDone index F G new c
done_by index F G old new c true one either more grows before here = done_grows index F G old new c more grows (before refl)
done_by index F G old new c false one either more grows before here = here either

-- one more span is gone through
pub done_more : (spans : List Bounds) (i : ℕ) (d : Bounds) (c : ℕ) (index : PairIndex) (F G : ℕ → Facts) (old new : Reached) → i < length spans → list_any (within c) (take (i + 1) spans) ≡ true
    → Gathers F G old.queries.items new.queries.items → Grows old.pairs.items new.pairs.items
    → (list_any (within c) (take i spans) ≡ true → IsDone index F G old c)
    → ((get_or spans i d).lo ≤ c → c ≤ (get_or spans i d).hi → IsDone index F G new c) → IsDone index F G new c
done_more spans i d c index F G old new lt is more grows before here =
    done_by index F G old new c (list_any (within c) (take i spans)) (within c (get_or spans i d)) (sym (list_any_more (within c) spans i d lt) ∙ is) more grows before
    (λ inside. here (low_of c (get_or spans i d) inside) (high_of c (get_or spans i d) inside))

-- ---- composites that stay

-- whether a mapping with s in front is that of a composite asks of s alone whether its class is 0
zero_alike_by : (F G : ℕ → Facts) (s y a b : ℕ) (first second k d x : Bool) → (first ≡ true → ((F a).class == 0) ≡ ((G a).class == 0))
    → ((k && (d && (((F a).class == 0) && x))) && (first && second)) ≡ ((k && (d && (((G a).class == 0) && x))) && (first && second))
zero_alike_by F G s y a b true second k d x same = ap (λ (z : Bool). (k && (d && (z && x))) && second) (same refl)
zero_alike_by F G s y a b false second k d x same = and-false (k && (d && (((F a).class == 0) && x))) ∙ sym (and-false (k && (d && (((G a).class == 0) && x))))

zero_alike : (F G : ℕ → Facts) (s y : ℕ) (m : List ℕ) (k d x : Bool) → ((F s).class == 0) ≡ ((G s).class == 0)
    → ((k && (d && (first_has_class_zero F m && x))) && is_pair s y m) ≡ ((k && (d && (first_has_class_zero G m && x))) && is_pair s y m)
zero_alike F G s y [] k d x same = refl
zero_alike F G s y (a ∷ []) k d x same = refl
zero_alike F G s y (a ∷ b ∷ e ∷ m) k d x same = refl
zero_alike F G s y (a ∷ b ∷ []) k d x same =
    zero_alike_by F G s y a b (a == s) (b == y) k d x (λ is. subst (λ (n : ℕ). ((F n).class == 0) ≡ ((G n).class == 0)) (sym (eqb-true a s is)) same)

composes_alike : (F G : ℕ → Facts) (s y q : ℕ) → F q ≡ G q → ((F s).class == 0) ≡ ((G s).class == 0) → composes F s y q ≡ composes G s y q
composes_alike F G s y q e same =
    zero_alike F G s y (F q).mapping (is_canonical (F q).kind) ((F q).class == 0) (not (F q).excluded) same
    ∙ ap (λ (H : Facts). (is_canonical H.kind && ((H.class == 0) && (first_has_class_zero G H.mapping && not H.excluded))) && is_pair s y H.mapping) e

both_false : (a b : Bool) → (a || b) ≡ false → a ≡ b
both_false true b none = absurd (true≢false none)
both_false false b none = sym none

not_reached : (F G : ℕ → Facts) (pairs : List (ℕ × ℕ)) (s y q : ℕ) → ReachesOwn F G pairs q → is_reached pairs s y ≡ false → composes F s y q ≡ composes G s y q
not_reached F G pairs s y q reaches none =
    both_false (composes F s y q) (composes G s y q) (false_from_ne_true (composes_either F G s y q) (λ is. true≢false (sym (reaches s y is) ∙ none)))

zero_same : (a b : Bool) → not (beq a b) ≡ false → a ≡ b
zero_same a b same = (booleans_Decides a b).0 (by_not (beq a b) same) where
  by_not : (t : Bool) → not t ≡ false → t ≡ true
  by_not true e = refl
  by_not false e = absurd (true≢false e)

composes_listed : (F : ℕ → Facts) (index : PairIndex) (s y q : ℕ) → Lists index F → composes F s y q ≡ true → is_listed index s y q ≡ true
composes_listed F index s y q lists is = lists s y q (pair_candidate F s y q is) (pair_members s y (F q).mapping ((and_parts (primary F q) (is_pair s y (F q).mapping) is).1))

pub reached_all : (index : PairIndex) (F G : ℕ → Facts) (spans : List Bounds) (reached : Reached) → Lists index F → Lists index G → StaysOutside spans F G
    → ((c : ℕ) → list_any (within c) spans ≡ true → IsDone index F G reached c) → AreReached F G reached.pairs.items
reached_all index F G spans reached now next stays done s y q none = by_point (list_any (within q) spans) refl where
  listed : composes_either F G s y q ≡ true → is_listed index s y q ≡ true
  listed is = elim (or_cases (composes F s y q) (composes G s y q) is) [ inl f ↦ composes_listed F index s y q now f | inr g ↦ composes_listed G index s y q next g ]

  by_either : first_differs F G s ≡ true → IsSeen index F G reached s → (t : Bool) → composes_either F G s y q ≡ t → composes F s y q ≡ composes G s y q
  by_either differs see true is = not_reached F G reached.pairs.items s y q (see.first differs y q (listed is)) none
  by_either differs see false is = both_false (composes F s y q) (composes G s y q) is

  by_class : F q ≡ G q → IsSeen index F G reached s → (t : Bool) → first_differs F G s ≡ t → composes F s y q ≡ composes G s y q
  by_class e see true differs = by_either differs see (composes_either F G s y q) refl
  by_class e see false same = composes_alike F G s y q e (zero_same ((F s).class == 0) ((G s).class == 0) same)

  by_done : F q ≡ G q → IsDone index F G reached s → composes F s y q ≡ composes G s y q
  by_done e (inl same) = composes_alike F G s y q e (ap (λ (H : Facts). H.class == 0) same)
  by_done e (inr see) = by_class e see (first_differs F G s) refl

  by_first : F q ≡ G q → (t : Bool) → list_any (within s) spans ≡ t → composes F s y q ≡ composes G s y q
  by_first e true inside = by_done e (done s inside)
  by_first e false outside = composes_alike F G s y q e (ap (λ (H : Facts). H.class == 0) (stays s outside))

  by_own : IsDone index F G reached q → composes F s y q ≡ composes G s y q
  by_own (inl same) = by_first same (list_any (within s) spans) refl
  by_own (inr see) = not_reached F G reached.pairs.items s y q see.own none

  by_point : (t : Bool) → list_any (within q) spans ≡ t → composes F s y q ≡ composes G s y q
  by_point true inside = by_own (done q inside)
  by_point false outside = by_first (stays q outside) (list_any (within s) spans) refl

-- ---- the answers that stay

pair_alike : (F G : ℕ → Facts) (s y : ℕ) → ((q : ℕ) → composes F s y q ≡ composes G s y q) → pair_of F s y ≡ pair_of G s y
unfolding pair_of
pair_alike F G s y same = ap (λ (p : ℕ → Bool). find p (range_with_len 0 point_count)) (fun_ext same)

ends_alike_by : (F : ℕ → Facts) (y q : ℕ) (m : List ℕ) → m ≡ (F q).mapping → is_second y m ≡ true → (s : ℕ) × (is_pair s y (F q).mapping ≡ true)
ends_alike_by F y q [] e is = absurd (true≢false (sym is))
ends_alike_by F y q (a ∷ []) e is = absurd (true≢false (sym is))
ends_alike_by F y q (a ∷ b ∷ d ∷ m) e is = absurd (true≢false (sym is))
ends_alike_by F y q (a ∷ b ∷ []) e is = (a, ap (is_pair a y) (sym e) ∙ and_from (a == a) (b == y) (eq-eqb a a refl) is)

pair_ends : (s y : ℕ) (m : List ℕ) → is_pair s y m ≡ true → is_second y m ≡ true
pair_ends s y [] is = is
pair_ends s y (a ∷ []) is = is
pair_ends s y (a ∷ b ∷ d ∷ m) is = is
pair_ends s y (a ∷ b ∷ []) is = (and_parts (a == s) (b == y) is).1

ends_too : (F G : ℕ → Facts) (y q : ℕ) → ((s : ℕ) → composes F s y q ≡ composes G s y q) → ends_with F y q ≡ true → ends_with G y q ≡ true
ends_too F G y q same is =
    let parts = and_parts (primary F q) (is_second y (F q).mapping) is in
    let pair = ends_alike_by F y q (F q).mapping refl parts.1 in
    let there = and_parts (primary G q) (is_pair pair.0 y (G q).mapping) (sym (same pair.0) ∙ and_from (primary F q) (is_pair pair.0 y (F q).mapping) parts.0 pair.1) in
    and_from (primary G q) (is_second y (G q).mapping) there.0 (pair_ends pair.0 y (G q).mapping there.1)

second_alike : (F G : ℕ → Facts) (y : ℕ) → ((s q : ℕ) → composes F s y q ≡ composes G s y q) → second_of F y ≡ second_of G y
unfolding second_of
second_alike F G y same =
    ap (λ (p : ℕ → Bool). list_any p (range_with_len 0 point_count))
    (fun_ext (λ q. same_from_both (ends_with F y q) (ends_with G y q) (ends_too F G y q (λ s. same s q)) (ends_too G F y q (λ s. sym (same s q)))))

ends_in : ℕ → ℕ × ℕ → Bool
ends_in y pair = pair.1 == y

-- a second member that some pair has
pair_with : (y : ℕ) (pairs : List (ℕ × ℕ)) → list_any (ends_in y) pairs ≡ true → (s : ℕ) × (is_reached pairs s y ≡ true)
unfolding ends_in
pair_with y [] is = absurd (true≢false (sym is))
pair_with y (p ∷ pairs) is =
    elim (or_cases (ends_in y p) (list_any (ends_in y) pairs) is) [
      | inl here ↦ (p.0, or_left (is_pair_of p.0 y p) (is_reached pairs p.0 y) (and_from (p.0 == p.0) (p.1 == y) (eq-eqb p.0 p.0 refl) here))
      | inr later ↦ let there = pair_with y pairs later in (there.0, or_right (is_pair_of there.0 y p) (is_reached pairs there.0 y) there.1)
    ]

-- a pair that is reached has a second member
with_pair : (s y : ℕ) (pairs : List (ℕ × ℕ)) → is_reached pairs s y ≡ true → list_any (ends_in y) pairs ≡ true
unfolding ends_in
with_pair s y [] is = is
with_pair s y (p ∷ pairs) is =
    elim (or_cases (is_pair_of s y p) (is_reached pairs s y) is) [
      | inl here ↦ or_left (ends_in y p) (list_any (ends_in y) pairs) ((and_parts (p.0 == s) (p.1 == y) here).1)
      | inr later ↦ or_right (ends_in y p) (list_any (ends_in y) pairs) (with_pair s y pairs later)
    ]

pub tells_all : (index : PairIndex) (F G : ℕ → Facts) (spans : List Bounds) (reached : Reached) (Q R : List Query) → Lists index F → Lists index G → StaysOutside spans F G
    → IsOnlyChanged F G reached.queries.items → ((c : ℕ) → list_any (within c) spans ≡ true → IsDone index F G reached c) → Gathers F G reached.queries.items Q
    → ((s y : ℕ) → is_reached reached.pairs.items s y ≡ true → IsTold F G Q (Pair s y)) → ((s y : ℕ) → is_reached reached.pairs.items s y ≡ true → IsTold F G Q (Second y))
    → ((q : Query) → is_asked R q ≡ is_asked Q q) → TellsChanges F G R
tells_all index F G spans reached Q R now next stays only done more pairs seconds same = record { changed = λ q is. more.only only q (sym (same q) ∙ is); unchanged = λ q none. unchanged q (sym (same q) ∙ none) } where
  all : AreReached F G reached.pairs.items
  all = reached_all index F G spans reached now next stays done

  by_row : (x : ℕ) → IsDone index F G reached x → is_asked Q (Row x) ≡ false → F x ≡ G x
  by_row x (inl same) none = same
  by_row x (inr see) none = told_grows F G reached.queries.items Q (Row x) more see.row none

  row : (x : ℕ) (t : Bool) → list_any (within x) spans ≡ t → is_asked Q (Row x) ≡ false → F x ≡ G x
  row x true inside none = by_row x (done x inside) none
  row x false outside none = stays x outside

  pair : (s y : ℕ) (t : Bool) → is_reached reached.pairs.items s y ≡ t → is_asked Q (Pair s y) ≡ false → pair_of F s y ≡ pair_of G s y
  pair s y true is none = pairs s y is none
  pair s y false absent none = pair_alike F G s y (λ q. all s y q absent)

  second : (y : ℕ) (t : Bool) → list_any (ends_in y) reached.pairs.items ≡ t → is_asked Q (Second y) ≡ false → second_of F y ≡ second_of G y
  second y true is none = let there = pair_with y reached.pairs.items is in seconds there.0 y there.1 none
  second y false absent none = second_alike F G y (λ s q. all s y q (false_from_ne_true (is_reached reached.pairs.items s y) (λ is. true≢false (sym (with_pair s y reached.pairs.items is) ∙ absent))))

  unchanged : (q : Query) → is_asked Q q ≡ false → SameAnswer F G q
  unchanged (Row x) none = row x (list_any (within x) spans) refl none
  unchanged (Pair s y) none = pair s y (is_reached reached.pairs.items s y) refl none
  unchanged (Second y) none = second y (list_any (ends_in y) reached.pairs.items) refl none

-- ---- keys

pub keys_from : (s y q : ℕ) → first_key s ≤ pair_key s y + q
keys_from s y q = omega arith

pub keys_below : (s y q : ℕ) → y < 2097152 → q < 2097152 → pair_key s y + q < first_key s + 4398046511104
keys_below s y q small less = omega (arith, small, less)

pub key_point : (s y q : ℕ) → q < 2097152 → (pair_key s y + q) % 2097152 ≡ q
key_point s y q less = grind (arith, less)

-- no point past the code points is reached
pub reaches_none : (words words' : ℕ → ℕ) (rests rests' : ℕ → RestOf) (pairs : List (ℕ × ℕ)) (q : ℕ) → 1114112 ≤ q → ReachesOwn (all_kept words rests) (all_kept words' rests') pairs q
reaches_none words words' rests rests' pairs q past s y is =
    elim (or_cases (composes (all_kept words rests) s y q) (composes (all_kept words' rests') s y q) is) [
      | inl now ↦ absurd (omega (arith, past, pair_inside words rests s y q now))
      | inr then ↦ absurd (omega (arith, past, pair_inside words' rests' s y q then))
    ]

small_of : (y : ℕ) → nat_lt y 2097152 ≡ true → y < 2097152
small_of y is = grind (arith, nat_tests)

-- the points of all keys of a first member are those that are listed under it
pub listed_own : (index : PairIndex) (words words' : ℕ → ℕ) (rests rests' : ℕ → RestOf) (pairs : List (ℕ × ℕ)) (s : ℕ)
    → ((k : ℕ) → first_key s ≤ k → k < first_key s + 4398046511104 → has index.pairs k ≡ true → ReachesOwn (all_kept words rests) (all_kept words' rests') pairs (k % 2097152))
    → (y q : ℕ) → is_listed index s y q ≡ true → ReachesOwn (all_kept words rests) (all_kept words' rests') pairs q
listed_own index words words' rests rests' pairs s keys y q is =
    let parts = and_parts (nat_lt y 2097152) _ is in
    let small : y < 2097152 = small_of y parts.0 in
    let there : has index.pairs (pair_key s y + q) ≡ true = (and_parts (has index.pairs (pair_key s y + q)) _ parts.1).0 in
    elim (cases_lt q 1114112) [
      | inl inside ↦ subst (ReachesOwn (all_kept words rests) (all_kept words' rests') pairs) (key_point s y q (omega (arith, inside)))
          (keys (pair_key s y + q) (keys_from s y q) (keys_below s y q small (omega (arith, inside))) there)
      | inr past ↦ reaches_none words words' rests rests' pairs q past
    ]
