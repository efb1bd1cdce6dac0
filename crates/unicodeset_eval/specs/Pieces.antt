-- The spans between the edges of a set, cut at n.
-- piece b from end         the numbers from `from` to before `end` as a span, where b says that they are in; else none
-- pieces n b from edges    the spans from `from` on
-- pieces_are               of a set they are the maximal spans of its members below n
use Rattle.std.proofs.Common.{◌≡◌, ℕ, ◌+◌, ◌-◌, ◌<◌, ◌≤◌, Bool, true, false, not, ◌&&◌, cond, List, [], ◌∷◌, ◌++◌, map, Some, None, refl, sym, ap, ◌∙◌, arith, append_assoc, inl, inr, nat_lt, min}
use Rattle.std.proofs.lemmas.Bool.{cases_lt, lt-ltb, le-ltb}
use Rattle.std.proofs.lemmas.List.{append-nil, map-append}
use Rattle.ucd_points.specs.Bounds.{Bounds}
use Rattle.ucd_model.specs.Labels.{same_label}
use Rattle.ucd_model.specs.LabelLemmas.{IsRun, spans_before, run_plain, run_labelled}
use Rattle.unicodeset_eval.specs.Edges.{inside, Rises}
use Rattle.unicodeset_eval.specs.EdgeLaws.{inside_early}
use Rattle.unicodeset_eval.specs.Members.{member_label, member_spans}

abbrev pub piece : Bool → ℕ → ℕ → List Bounds
piece b from end = cond (b && nat_lt from end) ((record { lo = from; hi = end - 1 }) ∷ []) []

abbrev pub pieces : ℕ → Bool → ℕ → List ℕ → List Bounds
pieces n b from [] = piece b from n
pieces n b from (x ∷ xs) = piece b from (min x n) ++ pieces n (not b) x xs

-- the spans that begin before m
abbrev bounds_before : ℕ → (ℕ → Bool) → ℕ → List Bounds
bounds_before n p m = map (λ s. s.bounds) (spans_before n (member_label p) m)

-- p is b from `from` to before `end`, and not so before and behind
record IsStretch (n : ℕ) (p : ℕ → Bool) (b : Bool) (from end : ℕ) : Type 0 where
  alike : (c : ℕ) → from ≤ c → c < end → p c ≡ b
  before : (c : ℕ) → c + 1 ≡ from → p c ≡ not b
  behind : end < n → p end ≡ not b

turning : (p : ℕ → Bool) (b : Bool) (c d : ℕ) → p c ≡ b → p d ≡ not b → same_label (member_label p c) (member_label p d) ≡ false
turning p true c d first second = rw (first, second) refl
turning p false c d first second = rw (first, second) refl

turning_back : (p : ℕ → Bool) (b : Bool) (c d : ℕ) → p c ≡ not b → p d ≡ b → same_label (member_label p c) (member_label p d) ≡ false
turning_back p true c d first second = rw (first, second) refl
turning_back p false c d first second = rw (first, second) refl

run_of : (n : ℕ) (p : ℕ → Bool) (b : Bool) (from end : ℕ) → IsStretch n p b from end → from < end → end ≤ n → IsRun n (member_label p) from end
run_of n p b from end s some le =
    let first : p from ≡ b = s.alike from (omega arith) some in
    record {
      some = some;
      inside = le;
      alike = λ k low high. ap (λ (v : Bool). cond v (Some []) None) (s.alike k low high ∙ sym first);
      other = λ lt. turning p b from end first (s.behind lt);
      starts = λ k e. turning_back p b k from (s.before k e) first;
    }

-- one stretch more
stretch_more : (n : ℕ) (p : ℕ → Bool) (b : Bool) (from end : ℕ) → IsStretch n p b from end → from < end → end ≤ n → bounds_before n p end ≡ bounds_before n p from ++ piece b from end
stretch_more n p true from end s some le =
    let run = run_of n p true from end s some le in
    let first : p from ≡ true = s.alike from (omega arith) some in
    rw (lt-ltb from end some) (ap (map (λ s. s.bounds)) (run_labelled n (member_label p) from end run (rw first refl)).0 ∙ map-append (λ s. s.bounds) (spans_before n (member_label p) from) _)
stretch_more n p false from end s some le =
    let run = run_of n p false from end s some le in
    let first : p from ≡ false = s.alike from (omega arith) some in
    ap (map (λ s. s.bounds)) (run_plain n (member_label p) from end run (rw first refl)).0 ∙ sym (append-nil (bounds_before n p from))

no_piece : (b : Bool) (from end : ℕ) → end ≤ from → piece b from end ≡ []
no_piece true from end le = rw (le-ltb from end le) refl
no_piece false from end le = refl

-- the same where `from` may be past n
stretch_cut : (n : ℕ) (p : ℕ → Bool) (b : Bool) (from end : ℕ) → IsStretch n p b from end → from < end → bounds_before n p (min end n) ≡ bounds_before n p (min from n) ++ piece b from (min end n)
stretch_cut n p b from end s some = elim (cases_lt from n) [
  | inl lt ↦
      let here : min from n ≡ from = omega arith in
      let cut : IsStretch n p b from (min end n) = record {
        alike = λ c low high. s.alike c low (omega arith);
        before = s.before;
        behind = λ below. let e : min end n ≡ end = omega arith in rw e (s.behind (omega arith));
      } in
      rw here (stretch_more n p b from (min end n) cut (omega arith) (omega arith))
  | inr ge ↦
      let first : min end n ≡ n = omega arith in
      let second : min from n ≡ n = omega arith in
      rw (first, second, no_piece b from n ge) (sym (append-nil (bounds_before n p n)))
]

pieces_from : (n : ℕ) (p : ℕ → Bool) (b : Bool) (from : ℕ) (edges : List ℕ) → Rises (from + 1) edges → ((c : ℕ) → from ≤ c → p c ≡ inside b edges c) → ((c : ℕ) → c + 1 ≡ from → p c ≡ not b) →
    bounds_before n p (min from n) ++ pieces n b from edges ≡ member_spans n p
pieces_from n p b from [] rises has before = elim (cases_lt from n) [
  | inl lt ↦
      let here : min from n ≡ from = omega arith in
      let s : IsStretch n p b from n = record {
        alike = λ c low high. has c low;
        before = before;
        behind = λ below. absurd (omega arith);
      } in
      rw here (sym (stretch_more n p b from n s lt (omega arith)))
  | inr ge ↦
      let here : min from n ≡ n = omega arith in
      rw (here, no_piece b from n ge) (append-nil (bounds_before n p n))
]
pieces_from n p b from (x ∷ xs) rises has before =
    let low = rises.0 in
    let early : (c : ℕ) → from ≤ c → c < x → p c ≡ b = λ c le lt. has c le ∙ rw (lt-ltb c x lt) refl in
    let late : (c : ℕ) → x ≤ c → p c ≡ inside (not b) xs c = λ c le. has c (omega arith) ∙ rw (le-ltb c x le) refl in
    let turns : p x ≡ not b = late x (omega arith) ∙ inside_early (not b) xs (x + 1) x rises.1 (omega arith) in
    let s : IsStretch n p b from x = record { alike = early; before = before; behind = λ below. turns } in
    let some : from < x = omega arith in
    let grown = stretch_cut n p b from x s some in
    let rest = pieces_from n p (not b) x xs rises.1 late (λ c e. early c (omega arith) (omega arith) ∙ sym (not_not b)) in
    sym (append_assoc (bounds_before n p (min from n)) (piece b from (min x n)) (pieces n (not b) x xs)) ∙ ap (λ (front : List Bounds). front ++ pieces n (not b) x xs) (sym grown) ∙ rest
  where
    not_not : (b : Bool) → not (not b) ≡ b
    not_not true = refl
    not_not false = refl

pub pieces_are : (n : ℕ) (b : Bool) (edges : List ℕ) → Rises 1 edges → pieces n b 0 edges ≡ member_spans n (inside b edges)
pieces_are n b edges rises =
    let none : min 0 n ≡ 0 = omega arith in
    rw none at (pieces_from n (inside b edges) b 0 edges rises (λ c le. refl) (λ c e. absurd (omega arith)))
