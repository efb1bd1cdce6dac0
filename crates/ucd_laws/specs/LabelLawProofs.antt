-- Proofs of the laws of maximal spans.
-- starts n f        the numbers below n at which a span begins
-- IsStart n f i c   the span at place i begins at c
--
-- spans_lie_below, spans_have_one_label, spans_are_maximal, stretches_are_spans, spans_ascend, spans_do_not_touch,
-- spans_are_disjoint, labelled_lie_in_a_span, others_lie_in_no_span, labelled_is_their_length   the laws of the same names
use Rattle.std.proofs.Common.{◌≡◌, ◌≢◌, ℕ, zero, suc, ◌+◌, ◌-◌, ◌<◌, ◌≤◌, Bool, true, false, cond, not, List, [], ◌∷◌, ◌++◌, length, get_or, filter, Option, Some, None, is_some, IsSome, unwrap_or, sum_by, refl, sym, ap, subst, ◌∙◌, arith, inl, inr, slice_get, option_map}
use Rattle.std.specs.List.{range_with_len, prefix_len, All, AllPairs}
use Rattle.std.specs.List.Sorted.{IsStrictlyIncreasing}
use Rattle.std.proofs.lemmas.List.FromFn.{length-range_with_len, get_or-range_with_len}
use Rattle.std.proofs.lemmas.List.Sums.{prefix_len-le-length, prefix_len_passes, prefix_len_stops, sum_by_push}
use Rattle.std.proofs.lemmas.List.Elements.{All-filter, filter_passes, All-from_get_or}
use Rattle.std.proofs.lemmas.List.Kept.{AllPairs-from_increasing, AllPairs-filter}
use Rattle.std.proofs.lemmas.Option.{slice_get-map, slice_get-get_or, slice_get_within, get_or_from_slice_get, same_Some}
use Rattle.std.proofs.lemmas.Bool.{cases_lt, cases_order, cases_Bool, and_parts, not-true, and_from, both_ways}
use Rattle.std.proofs.lemmas.Slice.Eq.{bytes_eq-Decides}
use Rattle.ucd_model.specs.Labels.{Label, same_label, begins, span_end, LabelSpan, span_from}
use Rattle.ucd_model.specs.LabelLemmas.{span_end_run, same_label-true, IsRun, spans_before, labelled_before, run_plain, run_labelled}
use Rattle.ucd_laws.specs.LabelLaws.{IsSpanAt, Covers, span_length, StretchesAreSpans, SpansLieBelow, SpansHaveOneLabel, SpansAreMaximal, SpansAscend, SpansDoNotTouch, SpansAreDisjoint, LabelledLieInASpan, OthersLieInNoSpan, LabelledCountIsSpanTotal}

-- ---- labels

same_label-from_true : (a b : Label) → same_label a b ≡ true → a ≡ b
same_label-from_true None None h = refl
same_label-from_true None (Some y) h = absurd (cc)
same_label-from_true (Some x) None h = absurd (cc)
same_label-from_true (Some x) (Some y) h = ap Some ((bytes_eq-Decides x y).0 h)

same_label-from_false : (a b : Label) → same_label a b ≡ false → a ≢ b
same_label-from_false a b h e = both_ways (same_label a b) h (let alike : same_label a a ≡ true = same_label-true a in subst (λ (l : Label). same_label a l ≡ true) e alike)

label_there : (a : Label) → is_some a ≡ true → a ≡ Some (unwrap_or a [])
label_there None h = absurd (cc)
label_there (Some x) h = refl

is_some-from : (a : Label) → IsSome a → is_some a ≡ true
is_some-from None h = h
is_some-from (Some x) h = refl

-- ---- where a span begins

begins_label : (f : ℕ → Label) (c : ℕ) → begins f c ≡ true → is_some (f c) ≡ true
begins_label f zero h = h
begins_label f (suc c) h = (and_parts (is_some (f (suc c))) (not (same_label (f c) (f (suc c)))) h).0

begins_other : (f : ℕ → Label) (c k : ℕ) → begins f c ≡ true → k + 1 ≡ c → same_label (f k) (f c) ≡ false
begins_other f zero k h e = absurd (omega arith)
begins_other f (suc c) k h e =
    let here : k ≡ c = omega arith in
    rw here (not-true (same_label (f c) (f (suc c))) (and_parts (is_some (f (suc c))) (not (same_label (f c) (f (suc c)))) h).1)

-- ---- where it ends

span_end-below : (n : ℕ) (f : ℕ → Label) (c : ℕ) → c < n → span_end n f c < n
span_end-below n f c h =
    let p : ℕ → Bool = λ d. same_label (f c) (f d) in
    let xs : List ℕ = range_with_len (c + 1) (n - (c + 1)) in
    omega (arith, length-range_with_len (c + 1) (n - (c + 1)), prefix_len-le-length p xs)

span_end-alike : (n : ℕ) (f : ℕ → Label) (c : ℕ) → c < n → (k : ℕ) → c ≤ k → k ≤ span_end n f c → f k ≡ f c
span_end-alike n f c h k low high =
    let p : ℕ → Bool = λ d. same_label (f c) (f d) in
    let xs : List ℕ = range_with_len (c + 1) (n - (c + 1)) in
    elim (cases_lt c k) [
      | inr le ↦ let here : k ≡ c = omega arith in ap f here
      | inl lt ↦
          let below : k < n = omega (arith, span_end-below n f c h) in
          let passes : p (get_or xs (k - (c + 1)) 0) ≡ true = prefix_len_passes p xs (k - (c + 1)) 0 (omega arith) in
          let place : get_or xs (k - (c + 1)) 0 ≡ k = get_or-range_with_len (c + 1) (n - (c + 1)) (k - (c + 1)) 0 (omega arith) ∙ (omega arith) in
          let alike : same_label (f c) (f k) ≡ true = subst (λ d. same_label (f c) (f d) ≡ true) place passes in
          sym (same_label-from_true (f c) (f k) alike)
    ]

span_end-other : (n : ℕ) (f : ℕ → Label) (c : ℕ) → span_end n f c + 1 < n → same_label (f c) (f (span_end n f c + 1)) ≡ false
span_end-other n f c h =
    let p : ℕ → Bool = λ d. same_label (f c) (f d) in
    let xs : List ℕ = range_with_len (c + 1) (n - (c + 1)) in
    let stops : p (get_or xs (prefix_len p xs) 0) ≡ false = prefix_len_stops p xs 0 (omega (arith, length-range_with_len (c + 1) (n - (c + 1)))) in
    let place : get_or xs (prefix_len p xs) 0 ≡ span_end n f c + 1 = get_or-range_with_len (c + 1) (n - (c + 1)) (prefix_len p xs) 0 (omega arith) ∙ (omega arith) in
    subst (λ d. same_label (f c) (f d) ≡ false) place stops

-- ---- the places of spans

abbrev pub starts : ℕ → (ℕ → Label) → List ℕ
starts n f = filter (begins f) (range_with_len 0 n)

pub record IsStart (n : ℕ) (f : ℕ → Label) (i c : ℕ) : Type 0 where
  pub place : slice_get (starts n f) i ≡ Some c
  pub here : begins f c ≡ true
  pub below : c < n

start_at : (n : ℕ) (f : ℕ → Label) (i c : ℕ) → slice_get (starts n f) i ≡ Some c → IsStart n f i c
start_at n f i c place =
    let within : i < length (starts n f) = slice_get_within (starts n f) i c place in
    let read : get_or (starts n f) i 0 ≡ c = get_or_from_slice_get (starts n f) i c 0 place in
    let below : All (λ x. x < n) (range_with_len 0 n) = All-from_get_or (λ x. x < n) (range_with_len 0 n) 0 (λ k lt. let inside : k < n = omega (arith, length-range_with_len 0 n) in omega (arith, get_or-range_with_len 0 n k 0 inside)) in
    record {
      place = place;
      here = subst (λ x. begins f x ≡ true) read (filter_passes (begins f) (range_with_len 0 n) i 0 within);
      below = subst (λ x. x < n) read (All-filter (begins f) (λ x. x < n) (range_with_len 0 n) below i 0 within);
    }

some_mapped : {A B : Type 0} (v : A → B) (o : Option A) (y : B) → option_map v o ≡ Some y → (x : A) × (o ≡ Some x) × (v x ≡ y)
some_mapped v None y h = absurd (cc)
some_mapped v (Some x) y h = (x, refl, same_Some (v x) y h)

-- a span is the one from the number at which it begins
span_start : (n : ℕ) (f : ℕ → Label) (i : ℕ) (s : LabelSpan) → IsSpanAt n f i s → (c : ℕ) × IsStart n f i c × (span_from n f c ≡ s)
span_start n f i s at =
    let found = some_mapped (span_from n f) (slice_get (starts n f) i) s (sym (slice_get-map (span_from n f) (starts n f) i) ∙ at) in
    (found.0, start_at n f i found.0 found.1, found.2)

increasing : (n : ℕ) → IsStrictlyIncreasing (range_with_len 0 n)
increasing n k lt =
    let long = length-range_with_len 0 n in
    omega (arith, get_or-range_with_len 0 n k 0 (omega arith), get_or-range_with_len 0 n (k + 1) 0 (omega arith))

starts_rise : (n : ℕ) (f : ℕ → Label) (i j c d : ℕ) → i < j → IsStart n f i c → IsStart n f j d → c < d
starts_rise n f i j c d lt at_c at_d =
    let pairs : AllPairs (λ x y. x < y) (starts n f) = AllPairs-filter (λ x y. x < y) (begins f) (range_with_len 0 n) (AllPairs-from_increasing (range_with_len 0 n) (increasing n)) in
    let rise : get_or (starts n f) i 0 < get_or (starts n f) j 0 = pairs i j 0 lt (slice_get_within (starts n f) j d at_d.place) in
    omega (arith, rise, get_or_from_slice_get (starts n f) i c 0 at_c.place, get_or_from_slice_get (starts n f) j d 0 at_d.place)

-- a span ends before a later one begins
ends_before : (n : ℕ) (f : ℕ → Label) (i j c d : ℕ) → i < j → IsStart n f i c → IsStart n f j d → span_end n f c < d
ends_before n f i j c d lt at_c at_d =
    let rise : c < d = starts_rise n f i j c d lt at_c at_d in
    elim (cases_lt (span_end n f c) d) [
      | inl below ↦ below
      | inr reach ↦
          let before : f (d - 1) ≡ f c = span_end-alike n f c at_c.below (d - 1) (omega arith) (omega arith) in
          let here : f d ≡ f c = span_end-alike n f c at_c.below d (omega arith) reach in
          absurd (same_label-from_false (f (d - 1)) (f d) (begins_other f d (d - 1) at_d.here (omega arith)) (before ∙ sym here))
    ]

-- ---- every number with a label has a start before it

start_of : (f : ℕ → Label) (c : ℕ) → is_some (f c) ≡ true → (b : ℕ) × (b ≤ c) × (begins f b ≡ true) × ((k : ℕ) → b ≤ k → k ≤ c → f k ≡ f c)
start_of f zero h = (0, (omega arith), h, λ k low high. let here : k ≡ 0 = omega arith in ap f here)
start_of f (suc c) h = elim (cases_Bool (same_label (f c) (f (suc c)))) [
  | inl same ↦
      let alike : f c ≡ f (suc c) = same_label-from_true (f c) (f (suc c)) same in
      let (b, low, here, run) = start_of f c (ap is_some alike ∙ h) in (
        b,
        (omega arith),
        here,
        λ k from upto. elim (cases_lt k (suc c)) [
          | inl lt ↦ run k from (omega arith) ∙ alike
          | inr ge ↦ let last : k ≡ suc c = omega arith in ap f last
        ],
      )
  | inr differ ↦ (suc c, (omega arith), and_from (is_some (f (suc c))) (not (same_label (f c) (f (suc c)))) h (ap not differ), λ k low high. let here : k ≡ suc c = omega arith in ap f here)
]

place_kept : (p : ℕ → Bool) (xs : List ℕ) (i x : ℕ) → slice_get xs i ≡ Some x → p x ≡ true → (j : ℕ) × (slice_get (filter p xs) j ≡ Some x)
place_kept p [] i x h pass = absurd (cc)
place_kept p (y ∷ ys) zero x h pass =
    let here : y ≡ x = same_Some y x h in
    (0, rw (here, pass) refl)
place_kept p (y ∷ ys) (suc i) x h pass =
    let (j, at) = place_kept p ys i x h pass in
    elim (p y) as (λ b. (j : ℕ) × (slice_get (cond b (y ∷ filter p ys) (filter p ys)) j ≡ Some x)) [
      | true ↦ (suc j, at)
      | false ↦ (j, at)
    ]

start_place : (n : ℕ) (f : ℕ → Label) (c : ℕ) → c < n → begins f c ≡ true → (i : ℕ) × (slice_get (starts n f) i ≡ Some c)
start_place n f c lt here =
    let at : slice_get (range_with_len 0 n) c ≡ Some c = slice_get-get_or (range_with_len 0 n) c 0 (omega (arith, length-range_with_len 0 n)) ∙ ap Some (get_or-range_with_len 0 n c 0 lt ∙ (omega arith)) in
    place_kept (begins f) (range_with_len 0 n) c c at here

-- ---- the laws

pub spans_lie_below : SpansLieBelow
spans_lie_below n f i s at =
    let (c, start, is) = span_start n f i s at in
    subst (λ (s : LabelSpan). (s.bounds.lo ≤ s.bounds.hi) × (s.bounds.hi < n)) is ((omega arith), span_end-below n f c start.below)

start_labelled : (n : ℕ) (f : ℕ → Label) (i c : ℕ) → IsStart n f i c → f c ≡ Some (span_from n f c).label
start_labelled n f i c start = label_there (f c) (begins_label f c start.here)

pub spans_have_one_label : SpansHaveOneLabel
spans_have_one_label n f i s at =
    let (b, start, is) = span_start n f i s at in
    subst (λ (s : LabelSpan). (c : ℕ) → Covers s c → f c ≡ Some s.label) is (λ c covers. span_end-alike n f b start.below c covers.0 covers.1 ∙ start_labelled n f i b start)

pub spans_are_maximal : SpansAreMaximal
spans_are_maximal n f i s at =
    let (b, start, is) = span_start n f i s at in
    let label : f b ≡ Some (span_from n f b).label = start_labelled n f i b start in
    subst (λ (s : LabelSpan). ((c : ℕ) → c + 1 ≡ s.bounds.lo → f c ≢ Some s.label) × (s.bounds.hi + 1 < n → f (s.bounds.hi + 1) ≢ Some s.label)) is (
      λ c before same. same_label-from_false (f c) (f b) (begins_other f b c start.here before) (same ∙ sym label),
      λ inside same. same_label-from_false (f b) (f (span_end n f b + 1)) (span_end-other n f b inside) (label ∙ sym same),
    )

same_label-differs : (a b : Label) → a ≢ b → same_label a b ≡ false
same_label-differs a b h = elim (cases_Bool (same_label a b)) [
  | inl same ↦ absurd (h (same_label-from_true a b same))
  | inr differ ↦ differ
]

begins_after : (f : ℕ → Label) (c : ℕ) → is_some (f c) ≡ true → ((k : ℕ) → k + 1 ≡ c → f k ≢ f c) → begins f c ≡ true
begins_after f zero some other = some
begins_after f (suc c) some other = and_from (is_some (f (suc c))) (not (same_label (f c) (f (suc c)))) some (ap not (same_label-differs (f c) (f (suc c)) (other c (omega arith))))

pub stretches_are_spans : StretchesAreSpans
stretches_are_spans n f s stretch =
    let lo : ℕ = s.bounds.lo in
    let hi : ℕ = s.bounds.hi in
    let ordered : lo ≤ hi = stretch.ordered in
    let inside : hi < n = stretch.below in
    let label : f lo ≡ Some s.label = stretch.alike lo ((omega arith), ordered) in
    let other : (k : ℕ) → k + 1 ≡ lo → f k ≢ f lo = λ k here same. stretch.before k here (same ∙ label) in
    let run : IsRun n f lo (hi + 1) = record {
      some = omega arith;
      inside = omega arith;
      alike = λ k low high. stretch.alike k (low, (omega arith)) ∙ sym label;
      other = λ lt. same_label-differs (f lo) (f (hi + 1)) (λ same. stretch.after lt (sym same ∙ label));
      starts = λ k here. same_label-differs (f k) (f lo) (other k here);
    } in
    let end : span_end n f lo ≡ hi = span_end_run n f lo (hi + 1) run ∙ (omega arith) in
    let (i, place) = start_place n f lo (omega arith) (begins_after f lo (ap is_some label) other) in
    let same : span_from n f lo ≡ s =
    ap (λ (h : ℕ). let t : LabelSpan = record { bounds = record { lo = lo; hi = h }; label = unwrap_or (f lo) [] } in t) end
    ∙ ap (λ (l : Label). let t : LabelSpan = record { bounds = s.bounds; label = unwrap_or l [] } in t) label in
    (i, slice_get-map (span_from n f) (starts n f) i ∙ ap (option_map (span_from n f)) place ∙ ap Some same)

pub spans_ascend : SpansAscend
spans_ascend n f i a b at_a at_b =
    let (c, start_c, is_c) = span_start n f i a at_a in
    let (d, start_d, is_d) = span_start n f (i + 1) b at_b in
    let rise : span_end n f c < d = ends_before n f i (i + 1) c d (omega arith) start_c start_d in
    omega (arith, rise, ap (λ (s : LabelSpan). s.bounds.hi) is_c, ap (λ (s : LabelSpan). s.bounds.lo) is_d)

pub spans_do_not_touch : SpansDoNotTouch
spans_do_not_touch n f i a b at_a at_b touch same =
    let covers_hi : Covers a a.bounds.hi = ((spans_lie_below n f i a at_a).0, (omega arith)) in
    let last : f a.bounds.hi ≡ Some a.label = spans_have_one_label n f i a at_a a.bounds.hi covers_hi in
    (spans_are_maximal n f (i + 1) b at_b).0 a.bounds.hi touch (last ∙ ap Some same)

apart : (n : ℕ) (f : ℕ → Label) (i j : ℕ) (a b : LabelSpan) → i < j → IsSpanAt n f i a → IsSpanAt n f j b → (c : ℕ) → Covers a c → Covers b c → ⊥
apart n f i j a b lt at_a at_b c in_a in_b =
    let (u, start_u, is_u) = span_start n f i a at_a in
    let (v, start_v, is_v) = span_start n f j b at_b in
    let rise : span_end n f u < v = ends_before n f i j u v lt start_u start_v in
    absurd (omega (arith, rise, ap (λ (s : LabelSpan). s.bounds.hi) is_u, ap (λ (s : LabelSpan). s.bounds.lo) is_v, in_a.1, in_b.0))

pub spans_are_disjoint : SpansAreDisjoint
spans_are_disjoint n f i j a b at_a at_b c in_a in_b = elim (cases_order i j) [
  | inl same ↦ same
  | inr (inl lt) ↦ absurd (apart n f i j a b lt at_a at_b c in_a in_b)
  | inr (inr gt) ↦ absurd (apart n f j i b a gt at_b at_a c in_b in_a)
]

pub labelled_lie_in_a_span : LabelledLieInASpan
labelled_lie_in_a_span n f c lt some =
    let (b, low, here, run) = start_of f c (is_some-from (f c) some) in
    let below : b < n = omega arith in
    let (i, place) = start_place n f b below here in
    let reach : c ≤ span_end n f b = elim (cases_lt (span_end n f b) c) [
      | inr le ↦ le
      | inl short ↦
          let next : f (span_end n f b + 1) ≡ f c = run (span_end n f b + 1) (omega arith) (omega arith) in
          let first : f b ≡ f c = run b (omega arith) low in
          absurd (same_label-from_false (f b) (f (span_end n f b + 1)) (span_end-other n f b (omega arith)) (first ∙ sym next))
    ] in
    let at : IsSpanAt n f i (span_from n f b) = slice_get-map (span_from n f) (starts n f) i ∙ ap (option_map (span_from n f)) place in
    (i, span_from n f b, at, (low, reach))

pub others_lie_in_no_span : OthersLieInNoSpan
others_lie_in_no_span n f i s at c none covers =
    let label : f c ≡ Some s.label = spans_have_one_label n f i s at c covers in
    absurd (cc)

-- ---- the total

-- from one run on to the next, and so to n
total_from : (n : ℕ) (f : ℕ → Label) (fuel at : ℕ) → n ≤ at + fuel → at ≤ n → (at < n → (k : ℕ) → k + 1 ≡ at → same_label (f k) (f at) ≡ false)
    → labelled_before f at ≡ sum_by span_length (spans_before n f at) → labelled_before f n ≡ sum_by span_length (spans_before n f n)
total_from n f zero at enough within edge sofar = let done : at ≡ n = omega arith in subst (λ m. labelled_before f m ≡ sum_by span_length (spans_before n f m)) done sofar
total_from n f (suc fuel) at enough within edge sofar = elim (cases_lt at n) [
  | inr ge ↦ let done : at ≡ n = omega arith in subst (λ m. labelled_before f m ≡ sum_by span_length (spans_before n f m)) done sofar
  | inl lt ↦
      let end : ℕ = span_end n f at + 1 in
      let below : span_end n f at < n = span_end-below n f at lt in
      let run : IsRun n f at end = record {
        some = omega arith;
        inside = omega arith;
        alike = λ k low high. span_end-alike n f at lt k low (omega arith);
        other = λ inside. span_end-other n f at inside;
        starts = edge lt;
      } in
      let last : f (span_end n f at) ≡ f at = run.alike (span_end n f at) (omega arith) (omega arith) in
      let next_edge : end < n → (k : ℕ) → k + 1 ≡ end → same_label (f k) (f end) ≡ false = λ inside k here.
      let before : k ≡ span_end n f at = omega arith in
      rw (before, last) (span_end-other n f at inside) in
      let next : labelled_before f end ≡ sum_by span_length (spans_before n f end) = elim (cases_Bool (is_some (f at))) [
        | inl some ↦
            let s : LabelSpan = record { bounds = record { lo = at; hi = end - 1 }; label = unwrap_or (f at) [] } in
            let (spans, count) = run_labelled n f at end run some in
            let more : sum_by span_length (spans_before n f at ++ s ∷ []) ≡ sum_by span_length (spans_before n f at) + span_length s = sum_by_push span_length (spans_before n f at) s in
            let sums : sum_by span_length (spans_before n f end) ≡ sum_by span_length (spans_before n f at ++ s ∷ []) = ap (sum_by span_length) spans in
            let long : span_length s ≡ end - at = omega arith in
            omega (arith, more, sums, long, count, sofar)
        | inr none ↦
            let (spans, count) = run_plain n f at end run none in
            count ∙ sofar ∙ sym (ap (sum_by span_length) spans)
      ] in
      total_from n f fuel end (omega arith) (omega arith) next_edge next
]

pub labelled_is_their_length : LabelledCountIsSpanTotal
labelled_is_their_length n f = total_from n f n 0 (omega arith) (omega arith) (λ lt k e. absurd (omega arith)) refl
