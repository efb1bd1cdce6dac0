-- How the maximal spans grow, run by run. A run is a stretch of numbers with one label, before which another label
-- stands or none.
-- same_label-true       a label is the same as itself
-- IsRun n f at end      the numbers from `at` to before `end`, one or more and all below n, have the label of `at`; the one
--                       before `at` has not, and where `end` is below n, `end` has not
-- spans_before n f m    the spans that begin before m, each up to its end below n
-- labelled_before f m   how many numbers before m have a label
-- span_end_run          the span from the beginning of a run ends at its last number
-- run_plain             where a run without a label ends, no more spans have begun, and no more numbers have a label
-- run_labelled          a run with a label is one more span, and as many more numbers with a label as it has
use Rattle.std.proofs.Common.{◌≡◌, ℕ, zero, suc, ◌+◌, ◌-◌, ◌<◌, ◌≤◌, Bool, true, false, cond, ◌&&◌, not, List, [], ◌∷◌, ◌++◌, length, get_or, map, filter, Some, None, is_some, unwrap_or, count_by, refl, sym, ap, ◌∙◌, arith, inl, inr}
use Rattle.std.specs.List.{range_with_len, prefix_len}
use Rattle.std.proofs.lemmas.List.{map-append}
use Rattle.std.proofs.lemmas.List.FromFn.{length-range_with_len, get_or-range_with_len}
use Rattle.std.proofs.lemmas.List.Sums.{prefix_len_is}
use Rattle.std.proofs.lemmas.Bool.{cases_lt}
use Rattle.std.proofs.lemmas.Slice.Eq.{bytes_eq-Decides}
use Rattle.ucd_points.specs.PlainProofs.{filter_more, filter_none, count_alike}
use Rattle.ucd_model.specs.Labels.{Label, same_label, begins, span_end, LabelSpan, span_from}

-- ---- equal labels

pub same_label-true : (a : Label) → same_label a a ≡ true
same_label-true None = refl
same_label-true (Some x) = (bytes_eq-Decides x x).1 refl

-- ---- one number more

-- where none of the next j numbers passes, the filter stays

count_none : (p : ℕ → Bool) (a j : ℕ) → ((k : ℕ) → a ≤ k → k < a + j → p k ≡ false) → count_by p (range_with_len 0 (a + j)) ≡ count_by p (range_with_len 0 a)
count_none p a j h = omega (arith, count_alike p false a j h)

-- ---- a run

pub record IsRun (n : ℕ) (f : ℕ → Label) (at end : ℕ) : Type 0 where
  pub some : at < end
  pub inside : end ≤ n
  pub alike : (k : ℕ) → at ≤ k → k < end → f k ≡ f at
  pub other : end < n → same_label (f at) (f end) ≡ false
  pub starts : (k : ℕ) → k + 1 ≡ at → same_label (f k) (f at) ≡ false

abbrev pub spans_before : ℕ → (ℕ → Label) → ℕ → List LabelSpan
spans_before n f m = map (span_from n f) (filter (begins f) (range_with_len 0 m))

abbrev pub labelled_before : (ℕ → Label) → ℕ → ℕ
labelled_before f m = count_by (λ c. is_some (f c)) (range_with_len 0 m)

begins_inside : (n : ℕ) (f : ℕ → Label) (at end : ℕ) → IsRun n f at end → (k : ℕ) → at + 1 ≤ k → k < end → begins f k ≡ false
begins_inside n f at end run zero low high = absurd (omega arith)
begins_inside n f at end run (suc k) low high =
    let before : f k ≡ f at = run.alike k (omega arith) (omega arith) in
    let here : f (suc k) ≡ f at = run.alike (suc k) (omega arith) high in
    let same : same_label (f k) (f (suc k)) ≡ true = rw (before, here) (same_label-true (f at)) in
    ap (λ b. is_some (f (suc k)) && not b) same ∙ elim (is_some (f (suc k))) as (λ b. b && false ≡ false) [ true ↦ refl | false ↦ refl ]

begins_at : (n : ℕ) (f : ℕ → Label) (at end : ℕ) → IsRun n f at end → begins f at ≡ is_some (f at)
begins_at n f zero end run = refl
begins_at n f (suc at) end run =
    ap (λ b. is_some (f (suc at)) && not b) (run.starts at (omega arith)) ∙ elim (is_some (f (suc at))) as (λ b. b && true ≡ b) [ true ↦ refl | false ↦ refl ]

pub run_plain : (n : ℕ) (f : ℕ → Label) (at end : ℕ) → IsRun n f at end → is_some (f at) ≡ false → (spans_before n f end ≡ spans_before n f at) × (labelled_before f end ≡ labelled_before f at)
run_plain n f at end run none =
    let long : at + (end - at) ≡ end = let h = run.some in omega arith in
    let silent : (k : ℕ) → at ≤ k → k < at + (end - at) → begins f k ≡ false = λ k low high. elim (cases_lt k (at + 1)) [
      | inl lt ↦ let here : k ≡ at = omega arith in rw here (begins_at n f at end run ∙ none)
      | inr ge ↦ begins_inside n f at end run k ge (omega arith)
    ] in
    let plain : (k : ℕ) → at ≤ k → k < at + (end - at) → is_some (f k) ≡ false = λ k low high. ap is_some (run.alike k low (omega arith)) ∙ none in (
      ap (λ m. spans_before n f m) (sym long) ∙ ap (map (span_from n f)) (filter_none (begins f) at (end - at) silent),
      ap (λ m. labelled_before f m) (sym long) ∙ count_none (λ c. is_some (f c)) at (end - at) plain,
    )

pub span_end_run : (n : ℕ) (f : ℕ → Label) (at end : ℕ) → IsRun n f at end → span_end n f at ≡ end - 1
span_end_run n f at end run =
    let p : ℕ → Bool = λ d. same_label (f at) (f d) in
    let xs : List ℕ = range_with_len (at + 1) (n - (at + 1)) in
    let some = run.some in
    let inside = run.inside in
    let len : length xs ≡ n - (at + 1) = length-range_with_len (at + 1) (n - (at + 1)) in
    let at_place : (k : ℕ) → k < n - (at + 1) → get_or xs k 0 ≡ at + 1 + k = λ k lt. get_or-range_with_len (at + 1) (n - (at + 1)) k 0 lt in
    let found : prefix_len p xs ≡ end - (at + 1) = prefix_len_is p xs (end - (at + 1)) 0 (omega arith)
    (λ k lt. rw (at_place k (omega arith), run.alike (at + 1 + k) (omega arith) (omega arith)) (same_label-true (f at)))
    (λ lt. let stop : at + 1 + (end - (at + 1)) ≡ end = omega arith in rw (at_place (end - (at + 1)) (omega arith), stop) (run.other (omega arith))) in
    omega (arith, found)

pub run_labelled : (n : ℕ) (f : ℕ → Label) (at end : ℕ) → IsRun n f at end → is_some (f at) ≡ true →
    (spans_before n f end ≡ spans_before n f at ++ (record { bounds = record { lo = at; hi = end - 1 }; label = unwrap_or (f at) [] }) ∷ []) × (labelled_before f end ≡ labelled_before f at + (end - at))
run_labelled n f at end run some =
    let lt = run.some in
    let long : at + (end - at) ≡ end = omega arith in
    let rest : (at + 1) + (end - (at + 1)) ≡ end = omega arith in
    let silent : (k : ℕ) → at + 1 ≤ k → k < (at + 1) + (end - (at + 1)) → begins f k ≡ false = λ k low high. begins_inside n f at end run k low (omega arith) in
    let has_label : (k : ℕ) → at ≤ k → k < at + (end - at) → is_some (f k) ≡ true = λ k low high. ap is_some (run.alike k low (omega arith)) ∙ some in
    let grown : filter (begins f) (range_with_len 0 end) ≡ filter (begins f) (range_with_len 0 at) ++ at ∷ [] =
    ap (λ m. filter (begins f) (range_with_len 0 m)) (sym rest) ∙ filter_none (begins f) (at + 1) (end - (at + 1)) silent ∙ filter_more (begins f) at
    ∙ ap (λ b. filter (begins f) (range_with_len 0 at) ++ cond b (at ∷ []) []) (begins_at n f at end run ∙ some) in
    let span : span_from n f at ≡ record { bounds = record { lo = at; hi = end - 1 }; label = unwrap_or (f at) [] } = ap (λ (h : ℕ). let s : LabelSpan = record { bounds = record { lo = at; hi = h }; label = unwrap_or (f at) [] } in s) (span_end_run n f at end run) in (
      ap (map (span_from n f)) grown ∙ map-append (span_from n f) (filter (begins f) (range_with_len 0 at)) (at ∷ []) ∙ ap (λ (s : LabelSpan). spans_before n f at ++ s ∷ []) span,
      ap (λ m. labelled_before f m) (sym long) ∙ count_alike (λ c. is_some (f c)) true at (end - at) has_label,
    )
