-- Spans by their first code points: one more behind them, and one search for what they meet.
use Rattle.std.proofs.Common.{◌≡◌, ℕ, ◌-◌, ◌<◌, ◌≤◌, Bool, true, false, ◌||◌, leb, max, List, [], ◌∷◌, ◌++◌, length, map, get_or, Option, Some, inl, inr, refl, sym, ap, ◌∙◌, subst, arith}
use Rattle.std.specs.List.{list_any, slice_get}
use Rattle.std.specs.List.Sorted.{IsPartitionPoint}
use Rattle.std.proofs.lemmas.Bool.Decides.{nat_tests}
use Rattle.std.proofs.lemmas.List.{map-append, get_or-map, get_or_default, length-map}
use Rattle.std.proofs.lemmas.List.Elements.{All-append}
use Rattle.std.proofs.lemmas.List.Folds.{list_any-append, list_any_at, list_any_none}
use Rattle.std.proofs.lemmas.List.Sorted.{IsNonDecreasingBy-push}
use Rattle.std.proofs.lemmas.Option.{slice_get_cases, slice_get-get_or}
use Rattle.ucd_points.specs.Bounds.{Bounds}
use Rattle.release_rows.specs.Keys.{spans_meet}
use Rattle.release_rows.specs.SpanOrders.{bounds_of, IsOrder, max_with, reach_with, NoneBeginsBehind}
use Rattle.release_rows.specs.declared.span_order.Begun.{Begun}

-- what is put behind these for a span
abbrev pub begun_with : List Begun → Bounds → Begun
begun_with bs span = record { first = span.lo; reach = reach_with bs span.hi }

-- a test of these as spans
any_map : (p : Bounds → Bool) (bs : List Begun) → list_any p (map bounds_of bs) ≡ list_any (λ b. p (bounds_of b)) bs
any_map p [] = refl
any_map p (b ∷ bs) = ap (λ r. p (bounds_of b) || r) (any_map p bs)

either : (a b : Bool) → (a ≡ true → b ≡ true) → (a ≡ false → b ≡ false) → a ≡ b
either true b if_true if_false = sym (if_true refl)
either false b if_true if_false = sym (if_false refl)

-- ---- one more

reaches_too : (own before span : Bounds) → before.lo ≤ span.lo → spans_meet own before ≡ false → spans_meet own (record { lo = span.lo; hi = max before.hi span.hi }) ≡ spans_meet own span
reaches_too own before span le out = grind (arith, nat_tests)

begins : (bs : List Begun) (lo k : ℕ) (d : Begun) → NoneBeginsBehind lo (map bounds_of bs) → k < length bs → (get_or bs k d).first ≤ lo
begins bs lo k d none lt =
    let within : k < length (map bounds_of bs) = rw (length-map bs bounds_of) lt in
    subst (λ (b : Bounds). b.lo ≤ lo) (get_or-map bounds_of bs k d (bounds_of d) lt) (none k (bounds_of d) within)

-- no span of these is met, so neither is one of them
misses : (own : Bounds) (bs : List Begun) (k : ℕ) (d : Begun) → k < length bs → list_any (spans_meet own) (map bounds_of bs) ≡ false → spans_meet own (bounds_of (get_or bs k d)) ≡ false
misses own bs k d lt out = by (spans_meet own (bounds_of (get_or bs k d))) refl where
  by : (b : Bool) → spans_meet own (bounds_of (get_or bs k d)) ≡ b → b ≡ false
  by true is = sym (list_any_at (λ b. spans_meet own (bounds_of b)) bs k d lt is) ∙ sym (any_map (spans_meet own) bs) ∙ out
  by false is = refl

more_met : (own span : Bounds) (bs : List Begun) → NoneBeginsBehind span.lo (map bounds_of bs) → list_any (spans_meet own) (map bounds_of bs) ≡ false
    → spans_meet own (bounds_of (begun_with bs span)) ≡ spans_meet own span
more_met own span bs none out = elim ((slice_get_cases bs (length bs - 1)).1) [
  | inl found ↦
      let before : Begun = found.0 in
      let le = begins bs span.lo (length bs - 1) before none found.1 in
      let missed = misses own bs (length bs - 1) before found.1 out in
      let at = found.3 in
      ap (λ (o : Option Begun). spans_meet own (record { lo = span.lo; hi = max_with o span.hi })) found.2
      ∙ reaches_too own (bounds_of before) span (subst (λ (b : Begun). b.first ≤ span.lo) at le) (subst (λ (b : Begun). spans_meet own (bounds_of b) ≡ false) at missed)
  | inr past ↦ ap (λ (o : Option Begun). spans_meet own (record { lo = span.lo; hi = max_with o span.hi })) past.1
]

pub put_met : (own span : Bounds) (bs : List Begun) → NoneBeginsBehind span.lo (map bounds_of bs)
    → list_any (spans_meet own) (map bounds_of (bs ++ begun_with bs span ∷ [])) ≡ list_any (spans_meet own) (map bounds_of bs) || spans_meet own span
put_met own span bs none =
    ap (list_any (spans_meet own)) (map-append bounds_of bs (begun_with bs span ∷ []))
    ∙ list_any-append (spans_meet own) (map bounds_of bs) (bounds_of (begun_with bs span) ∷ [])
    ∙ by (list_any (spans_meet own) (map bounds_of bs)) refl
  where
    or_none : (b : Bool) → (b || false) ≡ b
    or_none true = refl
    or_none false = refl

    by : (b : Bool) → list_any (spans_meet own) (map bounds_of bs) ≡ b → (b || (spans_meet own (bounds_of (begun_with bs span)) || false)) ≡ (b || spans_meet own span)
    by true is = refl
    by false is = or_none (spans_meet own (bounds_of (begun_with bs span))) ∙ more_met own span bs none is

pub put_behind : (span : Bounds) (bs : List Begun) → NoneBeginsBehind span.lo (map bounds_of bs) → NoneBeginsBehind span.lo (map bounds_of (bs ++ begun_with bs span ∷ []))
put_behind span bs none =
    subst (NoneBeginsBehind span.lo) (sym (map-append bounds_of bs (begun_with bs span ∷ [])))
    (All-append (λ (b : Bounds). b.lo ≤ span.lo) (map bounds_of bs) (bounds_of (begun_with bs span) ∷ []) none (λ k d lt. one k d lt))
  where
    one : (k : ℕ) (d : Bounds) → k < 1 → (get_or (bounds_of (begun_with bs span) ∷ []) k d).lo ≤ span.lo
    one k d lt = let first : k ≡ 0 = omega arith in rw first (omega arith)

pub put_order : (span : Bounds) (bs : List Begun) → IsOrder bs → NoneBeginsBehind span.lo (map bounds_of bs) → IsOrder (bs ++ begun_with bs span ∷ [])
put_order span bs order none = record {
  firsts = IsNonDecreasingBy-push (λ (b : Begun). b.first) bs (begun_with bs span) order.firsts (λ d some. begins bs span.lo (length bs - 1) d none (omega arith));
  reaches = IsNonDecreasingBy-push (λ (b : Begun). b.reach) bs (begun_with bs span) order.reaches
      (λ d some. let last : slice_get bs (length bs - 1) ≡ Some (get_or bs (length bs - 1) d) = slice_get-get_or bs (length bs - 1) d (omega arith) in rw last (omega arith));
}

-- ---- the search

below : (lo hi : ℕ) (bs : List Begun) (k : ℕ) (e d : Begun) (j : ℕ) → IsOrder bs → 0 < k → k ≤ length bs → IsPartitionPoint (λ (b : Begun). leb b.first hi ≡ true) (λ (b : Begun). leb b.first hi ≡ false) bs k
    → leb lo (get_or bs (k - 1) e).reach ≡ false → j < length bs → spans_meet (record { lo = lo; hi = hi }) (bounds_of (get_or bs j d)) ≡ false
below lo hi bs k e d j order some bound point out lt = by (leb k j) refl where
  by : (b : Bool) → leb k j ≡ b → spans_meet (record { lo = lo; hi = hi }) (bounds_of (get_or bs j d)) ≡ false
  by true is = let late = point.1 j d (grind (arith, nat_tests)) lt in grind (arith, nat_tests)
  by false is =
      let less = order.reaches j (k - 1) d (grind (arith, nat_tests)) (omega arith) in
      let last : get_or bs (k - 1) d ≡ get_or bs (k - 1) e = get_or_default bs (k - 1) d e (omega arith) in
      let reached = rw last at less in
      grind (arith, nat_tests)

pub some_begun : (lo hi : ℕ) (bs : List Begun) (k : ℕ) (e : Begun) → IsOrder bs → 0 < k → k ≤ length bs → IsPartitionPoint (λ (b : Begun). leb b.first hi ≡ true) (λ (b : Begun). leb b.first hi ≡ false) bs k
    → leb lo (get_or bs (k - 1) e).reach ≡ list_any (spans_meet (record { lo = lo; hi = hi })) (map bounds_of bs)
some_begun lo hi bs k e order some bound point =
    either _ _
    (λ met. any_map (spans_meet (record { lo = lo; hi = hi })) bs
    ∙ list_any_at (λ b. spans_meet (record { lo = lo; hi = hi }) (bounds_of b)) bs (k - 1) e (omega arith)
    (let early = point.0 (k - 1) e (omega arith) (omega arith) in grind (arith, nat_tests)))
    (λ out. any_map (spans_meet (record { lo = lo; hi = hi })) bs
    ∙ list_any_none (λ b. spans_meet (record { lo = lo; hi = hi }) (bounds_of b)) bs (λ j d lt. below lo hi bs k e d j order some bound point out lt))

pub none_begun : (lo hi : ℕ) (bs : List Begun) → IsPartitionPoint (λ (b : Begun). leb b.first hi ≡ true) (λ (b : Begun). leb b.first hi ≡ false) bs 0
    → false ≡ list_any (spans_meet (record { lo = lo; hi = hi })) (map bounds_of bs)
none_begun lo hi bs point =
    sym (any_map (spans_meet (record { lo = lo; hi = hi })) bs
    ∙ list_any_none (λ b. spans_meet (record { lo = lo; hi = hi }) (bounds_of b)) bs (λ j d lt. let late = point.1 j d (omega arith) lt in grind (arith, nat_tests)))
