-- Painting point by point.
use Rattle.std.proofs.Common.{◌≡◌, ℕ, ◌+◌, ◌<◌, ◌≤◌, Bool, true, false, cond, ◌&&◌, ◌||◌, leb, ltb, List, length, take, get_or, refl, sym, ap, ◌∙◌, arith, inl, inr}
use Rattle.std.proofs.lemmas.Bool.{cases_lt}
use Rattle.std.proofs.lemmas.Bool.Decides.{nat_tests}
use Rattle.std.proofs.lemmas.List.Folds.{list_any_more}
use Rattle.std.specs.List.{list_any}
use Rattle.ucd_points.specs.Bounds.{Bounds}
use Rattle.ucd_facts.specs.Facts.{within}

test_true : {A : Type 0} (b : Bool) (x y : A) → b ≡ true → cond b x y ≡ x
test_true b x y e = rw e refl

test_false : {A : Type 0} (b : Bool) (x y : A) → b ≡ false → cond b x y ≡ y
test_false b x y e = rw e refl

span_by : {A : Type 0} (was one now : Bool) (value new old first : A) → now ≡ (was || one) → new ≡ cond one value old → old ≡ cond was value first → new ≡ cond now value first
span_by true true now value new old first e is before = is ∙ sym (ap (λ b. cond b value first) e)
span_by true false now value new old first e is before = is ∙ before ∙ sym (ap (λ b. cond b value first) e)
span_by false true now value new old first e is before = is ∙ sym (ap (λ b. cond b value first) e)
span_by false false now value new old first e is before = is ∙ before ∙ sym (ap (λ b. cond b value first) e)

-- at the end all points of the span have their values
pub all_painted : {A : Type 0} (x y : A) (lo hi n c : ℕ) → n ≡ hi + 1 → cond (leb lo c && ltb c n) x y ≡ cond (leb lo c && leb c hi) x y
all_painted x y lo hi n c e = let same : (leb lo c && ltb c n) ≡ (leb lo c && leb c hi) = grind (arith, nat_tests) in ap (λ b. cond b x y) same

-- where the points from lo up to n have their values, and those of a stretch from n to last, told as m and end, get the value v of m,
-- which is theirs, those up to last + 1 do
pub stretch_more : {A : Type 0} (f : ℕ → A) (lo n m last end c : ℕ) (v new old first : A) → m ≡ n → end ≡ last → v ≡ f m → lo ≤ n → (m ≤ c → c ≤ end → f c ≡ f m)
    → new ≡ cond (leb m c && leb c end) v old → old ≡ cond (leb lo c && ltb c n) (f c) first → n ≤ last → new ≡ cond (leb lo c && ltb c (last + 1)) (f c) first
stretch_more f lo n m last end c v new old first at to value le same is was up =
    elim (cases_lt c n) [
      | inl below ↦
          let out : (leb m c && leb c end) ≡ false = grind (arith, nat_tests) in
          let alike : (leb lo c && ltb c (last + 1)) ≡ (leb lo c && ltb c n) = grind (arith, nat_tests) in
          is ∙ test_false _ _ _ out ∙ was ∙ ap (λ b. cond b (f c) first) (let s = alike in rw s refl)
      | inr from ↦ elim (cases_lt last c) [
        | inl above ↦
            let out : (leb m c && leb c end) ≡ false = grind (arith, nat_tests) in
            let before : (leb lo c && ltb c n) ≡ false = grind (arith, nat_tests) in
            let after : (leb lo c && ltb c (last + 1)) ≡ false = grind (arith, nat_tests) in
            rw after (is ∙ test_false _ _ _ out ∙ was ∙ test_false _ _ _ before)
        | inr inside ↦
            let in_it : (leb m c && leb c end) ≡ true = grind (arith, nat_tests) in
            let after : (leb lo c && ltb c (last + 1)) ≡ true = grind (arith, nat_tests) in
            rw after (is ∙ test_true _ _ _ in_it ∙ value ∙ sym (same (omega arith) (omega arith)))
      ]
    ]

-- the same of a stretch of one point
pub one_more : {A : Type 0} (f : ℕ → A) (lo n c : ℕ) (new old first : A) → lo ≤ n → new ≡ cond (leb n c && leb c n) (f n) old → old ≡ cond (leb lo c && ltb c n) (f c) first → new ≡ cond (leb lo c && ltb c (n + 1)) (f c) first
one_more f lo n c new old first le is was =
    stretch_more f lo n n n n c (f n) new old first refl refl refl le (λ low high. let same : c ≡ n = omega (arith, low, high) in ap f same) is was (omega arith)

-- where the points of spans have a value, and those of one more span get it, those of all of them do
pub span_more : {A : Type 0} (spans : List Bounds) (i : ℕ) (d : Bounds) (c : ℕ) (value new old first : A) → i < length spans
    → new ≡ cond (within c (get_or spans i d)) value old → old ≡ cond (list_any (within c) (take i spans)) value first
    → new ≡ cond (list_any (within c) (take (i + 1) spans)) value first
span_more spans i d c value new old first lt is was =
    span_by (list_any (within c) (take i spans)) (within c (get_or spans i d)) (list_any (within c) (take (i + 1) spans)) value new old first (list_any_more (within c) spans i d lt) is was
