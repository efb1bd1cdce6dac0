-- Spans are given exactly where they are spelled.
use Rattle.std.proofs.Common.{◌≡◌, ℕ, ◌+◌, ◌≤◌, Bool, true, false, cond, eqb, ltb, leb, List, [], ◌∷◌, ◌++◌, length, take, drop, get_or, Option, Some, None, refl, sym, ap, subst, ◌∙◌, arith, inl, inr, take_at, drop-drop, drop_at, length-append}
use Rattle.std.specs.List.{position_or_len, before_first, after_first}
use Rattle.std.proofs.lemmas.Bool.{cases_lt, eqb-true, le-ltb, lt-ltb, leb-true, le-leb}
use Rattle.std.proofs.lemmas.List.Sums.{split_at_first, passes_at_first}
use Rattle.ucd_points.specs.Bounds.{Bounds}
use Rattle.ucd_points.specs.Fields.{is_dot, point_of, one_point, two_points, behind_dot, span_of, SpellsSpan}
use Rattle.source_rows.proofs.Digits.{point_no_dot}

-- ---- what is given is spelled

one_is : (o : Option ℕ) (s : Bounds) → one_point o ≡ Some s → (o ≡ Some s.lo) × (s.hi ≡ s.lo)
one_is (Some c) s h = (cc, cc)
one_is None s h = absurd cc

record IsTwo (a b : Option ℕ) (s : Bounds) : Type 0 where
  lo : a ≡ Some s.lo
  hi : b ≡ Some s.hi
  ordered : s.lo ≤ s.hi

in_order : (lo hi : ℕ) (s : Bounds) (b : Bool) → leb lo hi ≡ b → cond b (Some (record { lo = lo; hi = hi })) None ≡ Some s → IsTwo (Some lo) (Some hi) s
in_order lo hi s true e h =
    let le : lo ≤ hi = leb-true lo hi e in
    let same : record { lo = lo; hi = hi } ≡ s = cc in
    subst (λ (t : Bounds). IsTwo (Some lo) (Some hi) t) same (record { lo = refl; hi = refl; ordered = le })
in_order lo hi s false e h = absurd cc

two_are : (a b : Option ℕ) (s : Bounds) → two_points a b ≡ Some s → IsTwo a b s
two_are (Some lo) (Some hi) s h = in_order lo hi s (leb lo hi) refl h
two_are (Some lo) None s h = absurd cc
two_are None b s h = absurd cc

behind_step : (b : ℕ) (bs : List ℕ) (c : ℕ) (dot : Bool) → eqb b 46 ≡ dot → cond dot (point_of bs) None ≡ Some c → (second : List ℕ) × (b ∷ bs ≡ 46 ∷ second) × (point_of second ≡ Some c)
behind_step b bs c true e h = (bs, ap (λ (x : ℕ). x ∷ bs) (eqb-true b 46 e), h)
behind_step b bs c false e h = absurd cc

behind_is : (bs : List ℕ) (c : ℕ) → behind_dot bs ≡ Some c → (second : List ℕ) × (bs ≡ 46 ∷ second) × (point_of second ≡ Some c)
behind_is [] c h = absurd cc
behind_is (b ∷ bs) c h = behind_step b bs c (eqb b 46) refl h

parts_are : (front back second : List ℕ) (b : ℕ) → b ≡ 46 → back ≡ 46 ∷ second → front ++ b ∷ back ≡ front ++ 46 ∷ 46 ∷ second
parts_are front back second b dot e = rw (dot, e) refl

pub spelled : (bs : List ℕ) (s : Bounds) → span_of bs ≡ Some s → SpellsSpan bs s
unfolding span_of
spelled bs s h =
    elim (cases_lt (position_or_len is_dot bs) (length bs)) [
      | inl lt ↦
          let t : two_points (point_of (before_first is_dot bs)) (behind_dot (after_first is_dot bs)) ≡ Some s = (rw (lt-ltb _ _ lt) at h) in
          let two = two_are (point_of (before_first is_dot bs)) (behind_dot (after_first is_dot bs)) s t in
          let second = behind_is (after_first is_dot bs) s.hi two.hi in
          let dot : get_or bs (position_or_len is_dot bs) 0 ≡ 46 = eqb-true _ _ (passes_at_first is_dot bs 0 lt) in
          let parts : bs ≡ before_first is_dot bs ++ 46 ∷ 46 ∷ second.0 = split_at_first is_dot bs 0 lt ∙ parts_are (before_first is_dot bs) (after_first is_dot bs) second.0 _ dot second.1 in
          inr (record { first = before_first is_dot bs; second = second.0; parts = parts; lo = two.lo; hi = second.2; ordered = two.ordered })
      | inr le ↦
          let t : one_point (point_of bs) ≡ Some s = (rw (le-ltb _ _ le) at h) in
          let one = one_is (point_of bs) s t in
          inl (record { lo = one.0; hi = one.1 })
    ]

-- ---- what is spelled is given

-- the first dot stands behind what has none
dot_step : (b : ℕ) (bs rest : List ℕ) (dot : Bool) → is_dot b ≡ dot → position_or_len is_dot (b ∷ bs) ≡ length (b ∷ bs) → (position_or_len is_dot bs ≡ length bs → position_or_len is_dot (bs ++ 46 ∷ rest) ≡ length bs) → position_or_len is_dot ((b ∷ bs) ++ 46 ∷ rest) ≡ length (b ∷ bs)
dot_step b bs rest true e h ih = let k = rw e at h in absurd (omega (arith, k))
dot_step b bs rest false e h ih = let k = rw e at h in rw (e, ih (omega (arith, k))) (omega arith)

first_dot : (bs rest : List ℕ) → position_or_len is_dot bs ≡ length bs → position_or_len is_dot (bs ++ 46 ∷ rest) ≡ length bs
first_dot [] rest h = refl
first_dot (b ∷ bs) rest h = dot_step b bs rest (is_dot b) refl h (λ k. first_dot bs rest k)

two_given : (first second : List ℕ) (s : Bounds) → point_of first ≡ Some s.lo → point_of second ≡ Some s.hi → s.lo ≤ s.hi → span_of (first ++ 46 ∷ 46 ∷ second) ≡ Some s
unfolding span_of
two_given first second s lo hi ordered =
    let text = first ++ 46 ∷ 46 ∷ second in
    let at : position_or_len is_dot text ≡ length first = first_dot first (46 ∷ second) (point_no_dot first s.lo lo) in
    let inside : ltb (length first) (length text) ≡ true = lt-ltb _ _ (omega (arith, length-append first (46 ∷ 46 ∷ second))) in
    let front : take (length first) text ≡ first = take_at first (46 ∷ 46 ∷ second) (length first) refl in
    let back : drop (length first + 1) text ≡ 46 ∷ second = sym (drop-drop 1 (length first) text) ∙ ap (λ (x : List ℕ). drop 1 x) (drop_at first (46 ∷ 46 ∷ second) (length first) refl) in
    rw (at, inside, front, back, lo, hi, le-leb s.lo s.hi ordered) refl

one_given : (bs : List ℕ) (s : Bounds) → point_of bs ≡ Some s.lo → s.hi ≡ s.lo → span_of bs ≡ Some s
unfolding span_of
one_given bs s lo hi =
    let at : position_or_len is_dot bs ≡ length bs = point_no_dot bs s.lo lo in
    let outside : ltb (length bs) (length bs) ≡ false = le-ltb _ _ (omega arith) in
    rw (at, outside, lo) (ap (λ (h : ℕ). Some (record { lo = s.lo; hi = h })) (sym hi))

pub given : (bs : List ℕ) (s : Bounds) → SpellsSpan bs s → span_of bs ≡ Some s
given bs s (inl one) = one_given bs s one.lo one.hi
given bs s (inr two) = rw two.parts (two_given two.first two.second s two.lo two.hi two.ordered)
