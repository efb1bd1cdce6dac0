-- What composition keeps, point by point: what is composed so far decomposes to what was read.
-- Alone F compat x                   x has an expansion, which is in order and composes to x alone
-- StarterBelow F compat cut n        the expansion of the last starter ends with a class that is at most n
-- Stable F compat done read          done decomposes to read; its marks are unmapped; each of its points is Alone; and the
--                                    expansion of its last starter ends with at most the class with which read ends
-- stable_behind                      one more point behind both: done and read with an unmapped point at their ends are Stable,
--                                    where read stays in order
-- Join F compat before after s y q   s is the last starter of the list of before, s and after; y is not blocked from it; they
--                                    have the composite q, and the expansion of q is that of s with y behind it
-- stable_joined                      one more point that is joined: done with the composite in the starter's place is Stable with
--                                    read and the point
-- stable_compose                     what is composed of a list in order, without mapped members, is Stable with it, where each
--                                    code point has its expansion
use Rattle.std.proofs.Common.{◌≡◌, ℕ, zero, suc, ◌<◌, ◌≤◌, Bool, true, false, cond, ◌&&◌, ◌==◌, nat_lt, List, [], ◌∷◌, ◌++◌, Option, Some, None, Ok, refl, sym, ap, ◌∙◌, subst, arith, option_map, append_assoc, append-nil}
use Rattle.std.specs.Prelude.{⊤}
use Rattle.std.specs.List.{AllByRecursion as Each}
use Rattle.std.proofs.lemmas.Bool.Decides.{nat_tests}
use Rattle.ucd_facts.specs.Facts.{Facts}
use Rattle.ucd_facts.specs.Composites.{pair_of}
use Rattle.ucd_model.specs.CanonicalOrder.{class_of, with_next, order}
use Rattle.ucd_facts.specs.Expansion.{expansion}
use Rattle.ucd_model.specs.Composition.{Split, is_open, where_open, last_starter, starter_behind, with_point, with_composite, composed_with, compose_onto, compose}
use Rattle.ucd_model.specs.Forms.{appended, expansions}
use Rattle.normalisation.specs.StarterLemmas.{CutsAt, push_after, last_starter_cuts, last_starter_at, last_starter_push}
use Rattle.normalisation.specs.PairLemmas.{Joins, pair_joins}
use Rattle.normalisation.specs.OrderLemmas.{last_class, Ordered, last_class-append, Ordered-push, with_next_end, order_onto-append, AllLess, order_past}
use Rattle.normalisation.specs.CompositionLaws.{LastStarter}
use Rattle.normalisation.specs.CompositionProofs.{compose_push, composed_with_replaced}
use Rattle.normalisation.specs.FormLaws.{HaveExpansions}
use Rattle.normalisation.specs.FormLemmas.{expansion_alone}
use Rattle.normalisation.specs.ExpandedLemmas.{Unmapped, Each-append, Each-front, Each-back, ok_same, appended_ok, expansions-append, expansions_unmapped, pair_expansion}

pub record Alone (F : ℕ → Facts) (compat : Bool) (x : ℕ) : Type 0 where
  pub points : List ℕ
  pub expansion : expansion F compat x ≡ Ok points
  pub ordered : Ordered (class_of F) 0 points
  pub composes : compose (class_of F) (pair_of F) points ≡ x ∷ []

abbrev pub StarterBelow : (ℕ → Facts) → Bool → Option Split → ℕ → Type 0
StarterBelow F compat (Some cut) n = (points : List ℕ) → expansion F compat cut.starter ≡ Ok points → last_class (class_of F) 0 points ≤ n
StarterBelow F compat None n = ⊤

pub record Stable (F : ℕ → Facts) (compat : Bool) (done read : List ℕ) : Type 0 where
  pub points : List ℕ
  pub expansions : expansions F compat done ≡ Ok points
  pub order : order (class_of F) points ≡ read
  pub marks : Each (λ x. 0 < class_of F x → Unmapped F compat x) done
  pub alone : Each (Alone F compat) done
  pub below : StarterBelow F compat (last_starter (class_of F) done) (last_class (class_of F) 0 read)

-- ---- what stands after the last starter

if_none : (n : ℕ) (cut : Split) (t : Bool) → (n == 0) ≡ t → ◌≡◌ {A = Option Split} (cond t (Some cut) None) None → 0 < n
if_none n cut true e f = cc
if_none n cut false e f = grind (arith, nat_tests)

none_behind : (class : ℕ → ℕ) (x : ℕ) (xs : List ℕ) (r : Option Split) → starter_behind class x xs r ≡ None → (r ≡ None) × (0 < class x)
none_behind class x xs (Some cut) e = cc
none_behind class x xs None e = (refl, if_none (class x) (record { before = []; starter = x; after = xs }) (class x == 0) refl e)

no_starter_each : (class : ℕ → ℕ) (xs : List ℕ) → last_starter class xs ≡ None → Each (λ x. 0 < class x) xs
no_starter_each class [] e = tt
no_starter_each class (x ∷ xs) e = let parts = none_behind class x xs (last_starter class xs) e in (parts.1, no_starter_each class xs parts.0)

open_less : (class : ℕ → ℕ) (y : ℕ) (xs : List ℕ) → Each (λ x. 0 < class x) xs → is_open class y xs ≡ true → AllLess class y xs
open_less class y [] marks e = tt
open_less class y (x ∷ xs) marks e = less_if (nat_lt (class x) (class y)) refl e (open_less class y xs marks.1) where
  less_if : (t : Bool) → nat_lt (class x) (class y) ≡ t → t && is_open class y xs ≡ true → (is_open class y xs ≡ true → AllLess class y xs) → AllLess class y (x ∷ xs)
  less_if true here both rest = (marks.0, grind (arith, nat_tests), rest both)
  less_if false here both rest = cc

marks_unmapped : (F : ℕ → Facts) (compat : Bool) (xs : List ℕ) → Each (λ x. 0 < class_of F x) xs → Each (λ x. 0 < class_of F x → Unmapped F compat x) xs → Each (Unmapped F compat) xs
marks_unmapped F compat [] marks each = tt
marks_unmapped F compat (x ∷ xs) marks each = (each.0 marks.0, marks_unmapped F compat xs marks.1 each.1)

last_class_push : (class : ℕ → ℕ) (xs : List ℕ) (y : ℕ) → last_class class 0 (xs ++ y ∷ []) ≡ class y
last_class_push class xs y = last_class-append class 0 xs (y ∷ [])

-- ---- one point more, behind

alone_unmapped : (F : ℕ → Facts) (compat : Bool) (y : ℕ) → Unmapped F compat y → Alone F compat y
alone_unmapped F compat y unmapped = record { points = y ∷ []; expansion = expansion_alone F compat y unmapped; ordered = (λ some. omega arith, tt); composes = refl }

module _ (F : ℕ → Facts) (compat : Bool) (done read : List ℕ) (y : ℕ) (unmapped : Unmapped F compat y) (follows : 0 < class_of F y → last_class (class_of F) 0 read ≤ class_of F y) where
  below_mark : (cut : Option Split) → 0 < class_of F y → StarterBelow F compat cut (last_class (class_of F) 0 read) → StarterBelow F compat (option_map (push_after y) cut) (last_class (class_of F) 0 (read ++ y ∷ []))
  below_mark (Some cut) some below = λ points e. let le = below points e in let past = follows some in omega (arith, last_class_push (class_of F) read y)
  below_mark None some below = tt

  below_next : (n : ℕ) → class_of F y ≡ n → StarterBelow F compat (last_starter (class_of F) done) (last_class (class_of F) 0 read) → StarterBelow F compat (last_starter (class_of F) (done ++ y ∷ [])) (last_class (class_of F) 0 (read ++ y ∷ []))
  below_next zero e below =
      rw (last_starter_at (class_of F) done [] y e refl) (λ points is.
      let same : points ≡ y ∷ [] = ok_same points (y ∷ []) (sym is ∙ expansion_alone F compat y unmapped) in
      omega (arith, ap (last_class (class_of F) 0) same, last_class_push (class_of F) read y))
  below_next (suc n) e below =
      let some : 0 < class_of F y = omega arith in
      rw (last_starter_push (class_of F) done y (λ none. absurd (omega arith))) (below_mark (last_starter (class_of F) done) some below)

  pub stable_behind : Stable F compat done read → Stable F compat (done ++ y ∷ []) (read ++ y ∷ [])
  stable_behind stable = record {
    points = stable.points ++ y ∷ [];
    expansions = expansions-append F compat done (y ∷ []) ∙ ap (λ r. appended r (expansions F compat (y ∷ []))) stable.expansions ∙ ap (appended (Ok stable.points)) (expansions_unmapped F compat (y ∷ []) (unmapped, tt));
    order = order_onto-append (class_of F) [] stable.points (y ∷ []) ∙ ap (λ zs. with_next (class_of F) zs y) stable.order ∙ with_next_end (class_of F) y read follows;
    marks = Each-append (λ x. 0 < class_of F x → Unmapped F compat x) done (y ∷ []) stable.marks (λ _. unmapped, tt);
    alone = Each-append (Alone F compat) done (y ∷ []) stable.alone (alone_unmapped F compat y unmapped, tt);
    below = below_next (class_of F y) refl stable.below;
  }

-- ---- one point more, joined

pub record Join (F : ℕ → Facts) (compat : Bool) (before after : List ℕ) (s y q : ℕ) : Type 0 where
  pub starter : class_of F s ≡ 0
  pub last : last_starter (class_of F) after ≡ None
  pub free : is_open (class_of F) y after ≡ true
  pub pair : pair_of F s y ≡ Some q
  pub joins : Joins F s y q
  pub expansion : (es : List ℕ) → expansion F compat s ≡ Ok es → expansion F compat q ≡ Ok (es ++ y ∷ [])

module _ (F : ℕ → Facts) (compat : Bool) (before after read : List ℕ) (s y q : ℕ) (stable : Stable F compat (before ++ s ∷ after) read) (join : Join F compat before after s y q) (follows : 0 < class_of F y → last_class (class_of F) 0 read ≤ class_of F y) where
  marks_after : Each (λ x. 0 < class_of F x) after
  marks_after = no_starter_each (class_of F) after join.last

  alone_s : Alone F compat s
  alone_s = (Each-back (Alone F compat) before (s ∷ after) stable.alone).0

  expansions_after : expansions F compat after ≡ Ok after
  expansions_after = expansions_unmapped F compat after (marks_unmapped F compat after marks_after (Each-back (λ x. 0 < class_of F x → Unmapped F compat x) before (s ∷ after) stable.marks).1)

  expansions_from_s : expansions F compat (s ∷ after) ≡ Ok (alone_s.points ++ after)
  expansions_from_s = rw (alone_s.expansion, expansions_after) refl

  expansions_from_q : expansions F compat (q ∷ after) ≡ Ok ((alone_s.points ++ y ∷ []) ++ after)
  expansions_from_q = rw (join.expansion alone_s.points alone_s.expansion, expansions_after) refl

  parts : (xs : List ℕ) × (ys : List ℕ) × (expansions F compat before ≡ Ok xs) × (expansions F compat (s ∷ after) ≡ Ok ys) × (xs ++ ys ≡ stable.points)
  parts = appended_ok (expansions F compat before) (expansions F compat (s ∷ after)) stable.points (sym (expansions-append F compat before (s ∷ after)) ∙ stable.expansions)

  points_are : stable.points ≡ (parts.0 ++ alone_s.points) ++ after
  points_are = sym parts.4 ∙ ap (λ zs. parts.0 ++ zs) (ok_same parts.1 (alone_s.points ++ after) (sym parts.3 ∙ expansions_from_s)) ∙ sym (append_assoc parts.0 alone_s.points after)

  joined_expansions : expansions F compat (before ++ q ∷ after) ≡ Ok ((parts.0 ++ alone_s.points) ++ y ∷ after)
  joined_expansions =
      expansions-append F compat before (q ∷ after) ∙ ap (λ r. appended r (expansions F compat (q ∷ after))) parts.2 ∙ ap (appended (Ok parts.0)) expansions_from_q
      ∙ ap (λ zs. Ok zs) (ap (λ zs. parts.0 ++ zs) (append_assoc alone_s.points (y ∷ []) after) ∙ sym (append_assoc parts.0 alone_s.points (y ∷ after)))

  -- the point passes the marks behind the starter, each of a less class
  joined_order : order (class_of F) ((parts.0 ++ alone_s.points) ++ y ∷ after) ≡ read ++ y ∷ []
  joined_order =
      order_onto-append (class_of F) [] (parts.0 ++ alone_s.points) (y ∷ after) ∙ order_past (class_of F) (order (class_of F) (parts.0 ++ alone_s.points)) after y (open_less (class_of F) y after marks_after join.free)
      ∙ order_onto-append (class_of F) (order (class_of F) (parts.0 ++ alone_s.points)) after (y ∷ [])
      ∙ ap (λ zs. with_next (class_of F) zs y) (sym (order_onto-append (class_of F) [] (parts.0 ++ alone_s.points) after) ∙ ap (order (class_of F)) (sym points_are) ∙ stable.order)
      ∙ with_next_end (class_of F) y read follows

  below_s : last_class (class_of F) 0 alone_s.points ≤ last_class (class_of F) 0 read
  below_s = (subst (λ (cut : Option Split). StarterBelow F compat cut (last_class (class_of F) 0 read)) (last_starter_at (class_of F) before after s join.starter join.last) stable.below) alone_s.points alone_s.expansion

  last_s : LastStarter (class_of F) (s ∷ []) [] s []
  last_s = record { list = refl; starter = join.starter; last = refl }

  alone_q : Alone F compat q
  alone_q = record {
    points = alone_s.points ++ y ∷ [];
    expansion = join.expansion alone_s.points alone_s.expansion;
    ordered = Ordered-push (class_of F) 0 alone_s.points y alone_s.ordered (λ some. let past = follows some in let le = below_s in omega arith);
    composes = compose_push (class_of F) (pair_of F) alone_s.points y ∙ ap (λ zs. composed_with (class_of F) (pair_of F) zs y) alone_s.composes ∙ composed_with_replaced (class_of F) (pair_of F) (s ∷ []) [] [] s y last_s q refl join.pair;
  }

  below_q : StarterBelow F compat (last_starter (class_of F) (before ++ q ∷ after)) (last_class (class_of F) 0 (read ++ y ∷ []))
  below_q = rw (last_starter_at (class_of F) before after q join.joins.class join.last) (λ points is.
      let same : points ≡ alone_s.points ++ y ∷ [] = ok_same points (alone_s.points ++ y ∷ []) (sym is ∙ join.expansion alone_s.points alone_s.expansion) in
      omega (arith, ap (last_class (class_of F) 0) same, last_class_push (class_of F) alone_s.points y, last_class_push (class_of F) read y))

  pub stable_joined : Stable F compat (before ++ q ∷ after) (read ++ y ∷ [])
  stable_joined = record {
    points = (parts.0 ++ alone_s.points) ++ y ∷ after;
    expansions = joined_expansions;
    order = joined_order;
    marks = Each-append (λ x. 0 < class_of F x → Unmapped F compat x) before (q ∷ after) (Each-front (λ x. 0 < class_of F x → Unmapped F compat x) before (s ∷ after) stable.marks) ((λ some. absurd (omega (arith, join.joins.class))), (Each-back (λ x. 0 < class_of F x → Unmapped F compat x) before (s ∷ after) stable.marks).1);
    alone = Each-append (Alone F compat) before (q ∷ after) (Each-front (Alone F compat) before (s ∷ after) stable.alone) (alone_q, (Each-back (Alone F compat) before (s ∷ after) stable.alone).1);
    below = below_q;
  }

-- ---- the step, and the whole pass

module _ (F : ℕ → Facts) (compat : Bool) (have : HaveExpansions F compat) where
  join_of : (before after : List ℕ) (s y q : ℕ) → Unmapped F compat y → class_of F s ≡ 0 → last_starter (class_of F) after ≡ None → is_open (class_of F) y after ≡ true → pair_of F s y ≡ Some q → Join F compat before after s y q
  join_of before after s y q unmapped starter last free pair =
      let joins = pair_joins F s y q pair in
      record { starter = starter; last = last; free = free; pair = pair; joins = joins; expansion = λ es e. pair_expansion F compat s y q es joins unmapped e (have q joins.point) }

  module _ (done read : List ℕ) (y : ℕ) (stable : Stable F compat done read) (unmapped : Unmapped F compat y) (follows : 0 < class_of F y → last_class (class_of F) 0 read ≤ class_of F y) where
    with_pair : (cut : Split) (r : Option ℕ) → CutsAt (class_of F) done (Some cut) → is_open (class_of F) y cut.after ≡ true → pair_of F cut.starter y ≡ r → Stable F compat (with_composite done y cut r) (read ++ y ∷ [])
    with_pair cut None cuts free pair = stable_behind F compat done read y unmapped follows stable
    with_pair cut (Some q) cuts free pair =
        stable_joined F compat cut.before cut.after read cut.starter y q (subst (λ (zs : List ℕ). Stable F compat zs read) cuts.0 stable) (join_of cut.before cut.after cut.starter y q unmapped cuts.1 cuts.2 free pair) follows

    with_open : (cut : Split) (t : Bool) → CutsAt (class_of F) done (Some cut) → is_open (class_of F) y cut.after ≡ t → Stable F compat (with_point (pair_of F) done y (cond t (Some cut) None)) (read ++ y ∷ [])
    with_open cut true cuts free = with_pair cut (pair_of F cut.starter y) cuts free refl
    with_open cut false cuts free = stable_behind F compat done read y unmapped follows stable

    with_cut : (cut : Option Split) → CutsAt (class_of F) done cut → Stable F compat (with_point (pair_of F) done y (where_open (class_of F) y cut)) (read ++ y ∷ [])
    with_cut (Some cut) cuts = with_open cut (is_open (class_of F) y cut.after) cuts refl
    with_cut None cuts = stable_behind F compat done read y unmapped follows stable

    stable_next : Stable F compat (composed_with (class_of F) (pair_of F) done y) (read ++ y ∷ [])
    stable_next = with_cut (last_starter (class_of F) done) (last_starter_cuts (class_of F) done)

  stable_onto : (done read rest : List ℕ) → Stable F compat done read → Each (Unmapped F compat) rest → Ordered (class_of F) (last_class (class_of F) 0 read) rest → Stable F compat (compose_onto (class_of F) (pair_of F) done rest) (read ++ rest)
  stable_onto done read [] stable unmapped ordered = subst (Stable F compat done) (sym (append-nil read)) stable
  stable_onto done read (y ∷ rest) stable unmapped ordered =
      let next = stable_next done read y stable unmapped.0 ordered.0 in
      let ordered' : Ordered (class_of F) (last_class (class_of F) 0 (read ++ y ∷ [])) rest = rw (last_class_push (class_of F) read y) ordered.1 in
      subst (Stable F compat (compose_onto (class_of F) (pair_of F) (composed_with (class_of F) (pair_of F) done y) rest)) (append_assoc read (y ∷ []) rest)
      (stable_onto (composed_with (class_of F) (pair_of F) done y) (read ++ y ∷ []) rest next unmapped.1 ordered')

  -- what is composed of a decomposed list decomposes to it
  pub stable_compose : (t : List ℕ) → Each (Unmapped F compat) t → Ordered (class_of F) 0 t → Stable F compat (compose (class_of F) (pair_of F) t) t
  stable_compose t unmapped ordered = stable_onto [] [] t (record { points = []; expansions = refl; order = refl; marks = tt; alone = tt; below = tt }) unmapped ordered
