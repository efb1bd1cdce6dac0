-- A span of a layout is given a value.
use Rattle.std.proofs.Common.{◌≡◌, ℕ, zero, suc, ◌+◌, ◌<◌, ◌≤◌, Bool, true, false, List, [], ◌∷◌, ◌++◌, take, drop, refl, ◌∙◌, cond, ltb, leb, ◌&&◌, arith, Option, None, option_to_list}
use Rattle.std.proofs.lemmas.Bool.Decides.{nat_tests}
use Rattle.std.proofs.Math.Seq.{drop-length}
use Rattle.range_table.specs.declared.change.Change.{Change}
use Rattle.range_table.specs.Layout.{Follow, value_at, count_before, value_of_run}
use Rattle.range_table.specs.Edit.{SetsSpan}
use Rattle.range_table.proofs.Lookups.{value_of_run-count_before}
use Rattle.range_table.proofs.Splices.{change_to, value_at-change_to, Follow-change_to, Follow-behind, value_at-behind, count_before-all, value_at-front, Follow-front}

-- what may stand from lo on, where v stands up to hi and the old values d, xs behind it
pub record IsTail {A : Type 0} (eq : A → A → Bool) (d : A) (xs : List (Change A)) (lo hi : ℕ) (v : A) (tail : List (Change A)) : Type 0 where
  pub follow : Follow eq lo v tail
  pub values : (c : ℕ) → c < 1114112 → value_at v tail c ≡ cond (leb c hi) v (value_at d xs c)

cond-two : {A : Type 0} (c hi : ℕ) (v u w : A) → (hi < c → u ≡ w) → cond (ltb c (suc hi)) v u ≡ cond (leb c hi) v w
cond-two c hi v u w h = grind (arith, nat_tests)

pub IsTail-inner : {A : Type 0} (eq : A → A → Bool) (d : A) (xs : List (Change A)) (lo hi : ℕ) (v : A) → ((a b : A) → eq a b ≡ true → a ≡ b) → Follow eq 0 d xs → lo ≤ hi → suc hi < 1114112 → IsTail eq d xs lo hi v (option_to_list (change_to eq v (suc hi) (value_of_run d xs (count_before (suc (suc hi)) xs))) ++ drop (count_before (suc (suc hi)) xs) xs)
IsTail-inner eq d xs lo hi v same f le inner =
    let behind = Follow-behind eq 0 (suc hi) d xs f in
    rw (value_of_run-count_before d xs (suc hi))
    (record {
      follow = Follow-change_to eq lo v (suc hi) (value_at d xs (suc hi)) (drop (count_before (suc (suc hi)) xs) xs) same (omega arith) inner behind;
      values = λ c lt.
          value_at-change_to eq v (suc hi) (value_at d xs (suc hi)) (drop (count_before (suc (suc hi)) xs) xs) c same behind
          ∙ cond-two c hi v _ _ (λ above. value_at-behind (suc hi) c d xs (omega arith));
    })

cond-low : {A : Type 0} (c hi : ℕ) (v w : A) → c ≤ hi → v ≡ cond (leb c hi) v w
cond-low c hi v w h = grind (arith, nat_tests)

pub IsTail-last : {A : Type 0} (eq : A → A → Bool) (d : A) (xs : List (Change A)) (lo hi : ℕ) (v : A) → Follow eq 0 d xs → suc hi ≡ 1114112 → IsTail eq d xs lo hi v (drop (count_before (suc (suc hi)) xs) xs)
IsTail-last eq d xs lo hi v f last =
    rw (count_before-all eq 0 d (suc (suc hi)) xs f (omega arith), drop-length)
    (record { follow = tt; values = λ c lt. cond-low c hi v _ (omega arith) })

count_before-zero : {A : Type 0} (xs : List (Change A)) → count_before 0 xs ≡ 0
count_before-zero [] = refl
count_before-zero (x ∷ xs) = grind (arith, nat_tests)

cond-first : {A : Type 0} (c hi : ℕ) (v w : A) → cond (leb c hi) v w ≡ cond (leb 0 c && leb c hi) v w
cond-first c hi v w = grind (arith, nat_tests)

pub SetsSpan-first : {A : Type 0} (eq : A → A → Bool) (d : A) (xs : List (Change A)) (hi : ℕ) (v : A) (tail : List (Change A)) → ((a : A) → eq a a ≡ true) → IsTail eq d xs 0 hi v tail → SetsSpan eq d xs 0 hi v v (take (count_before 0 xs) xs ++ (option_to_list (change_to eq v 0 v) ++ tail))
SetsSpan-first eq d xs hi v tail self t =
    rw (count_before-zero xs, self v)
    (record { follow = t.follow; values = λ c lt. t.values c lt ∙ cond-first c hi v _ })

cond-three : {A : Type 0} (c lo hi : ℕ) (v e u w : A) → (lo ≤ c → u ≡ cond (leb c hi) v w) → cond (ltb c lo) w u ≡ cond (leb lo c && leb c hi) v w
cond-three c lo hi v e u w h = grind (arith, nat_tests)

cond-true : {A : Type 0} (c lo : ℕ) (e u : A) → c < lo → cond (ltb c lo) e u ≡ e
cond-true c lo e u h = grind (arith, nat_tests)

cond-false : {A : Type 0} (c lo : ℕ) (e u : A) → lo ≤ c → cond (ltb c lo) e u ≡ u
cond-false c lo e u h = grind (arith, nat_tests)

pub SetsSpan-inner : {A : Type 0} (eq : A → A → Bool) (d : A) (xs : List (Change A)) (lo hi : ℕ) (v : A) (tail : List (Change A)) → ((a b : A) → eq a b ≡ true → a ≡ b) → Follow eq 0 d xs → 0 < lo → lo < 1114112 → IsTail eq d xs lo hi v tail → SetsSpan eq d xs lo hi v d (take (count_before lo xs) xs ++ (option_to_list (change_to eq (value_of_run d xs (count_before lo xs)) lo v) ++ tail))
SetsSpan-inner eq d xs lo hi v tail same f pos is_point t =
    let e = value_of_run d xs (count_before lo xs) in
    let round = λ (c : ℕ). value_at-change_to eq e lo v tail c same t.follow in
    record {
      follow = Follow-front eq 0 lo d xs _ f pos (λ k lt. Follow-change_to eq k e lo v tail same lt is_point t.follow);
      values = λ c lt.
          value_at-front lo d xs _ c (λ k below. round k ∙ cond-true k lo e _ below)
          ∙ cond-three c lo hi v e _ _ (λ above. round c ∙ cond-false c lo e _ above ∙ t.values c lt);
    }

IsTail-by_test : {A : Type 0} (eq : A → A → Bool) (d : A) (xs : List (Change A)) (lo hi : ℕ) (v : A) (behind : ℕ) (ends : Option (Change A)) → ((a b : A) → eq a b ≡ true → a ≡ b) → Follow eq 0 d xs → lo ≤ hi → hi < 1114112 → behind ≡ count_before (hi + 2) xs → (hi + 1 ≡ 1114112 → ends ≡ None) → (hi + 1 < 1114112 → ends ≡ change_to eq v (hi + 1) (value_of_run d xs behind)) → (t : Bool) → ltb (suc hi) 1114112 ≡ t → IsTail eq d xs lo hi v (option_to_list ends ++ drop behind xs)
IsTail-by_test eq d xs lo hi v behind ends same f le is_point at last inner true e =
    let h : suc hi < 1114112 = grind (arith, nat_tests) in
    let one : hi + 1 ≡ suc hi = omega arith in
    let two : hi + 2 ≡ suc (suc hi) = omega arith in
    rw (inner (omega arith), at, one, two) (IsTail-inner eq d xs lo hi v same f le h)
IsTail-by_test eq d xs lo hi v behind ends same f le is_point at last inner false e =
    let h : suc hi ≡ 1114112 = grind (arith, nat_tests) in
    let two : hi + 2 ≡ suc (suc hi) = omega arith in
    rw (last (omega arith), at, two) (IsTail-last eq d xs lo hi v f h)

-- what the steps of `set` add up to
pub SetsSpan-from_steps : {A : Type 0} (eq : A → A → Bool) (d : A) (xs : List (Change A)) (lo hi : ℕ) (v : A) (from behind : ℕ) (before : A) (begins ends : Option (Change A)) (d' : A) (new : List (Change A)) → ((a : A) → eq a a ≡ true) → ((a b : A) → eq a b ≡ true → a ≡ b) → Follow eq 0 d xs → lo ≤ hi → hi < 1114112 → from ≡ count_before lo xs → behind ≡ count_before (hi + 2) xs → (lo ≡ 0 → before ≡ v) → (0 < lo → before ≡ value_of_run d xs from) → begins ≡ change_to eq before lo v → (hi + 1 ≡ 1114112 → ends ≡ None) → (hi + 1 < 1114112 → ends ≡ change_to eq v (hi + 1) (value_of_run d xs behind)) → new ≡ take from xs ++ (option_to_list begins ++ (option_to_list ends ++ drop behind xs)) → (lo ≡ 0 → d' ≡ v) → (0 < lo → d' ≡ d) → SetsSpan eq d xs lo hi v d' new
SetsSpan-from_steps eq d xs zero hi v from behind before begins ends d' new self same f le is_point at at_behind first inner begun last ended is d'-first d'-inner =
    let tail = IsTail-by_test eq d xs 0 hi v behind ends same f le is_point at_behind last ended (ltb (suc hi) 1114112) refl in
    rw (is, d'-first refl, begun, first refl, at) (SetsSpan-first eq d xs hi v (option_to_list ends ++ drop behind xs) self tail)
SetsSpan-from_steps eq d xs (suc lo) hi v from behind before begins ends d' new self same f le is_point at at_behind first inner begun last ended is d'-first d'-inner =
    let tail = IsTail-by_test eq d xs (suc lo) hi v behind ends same f le is_point at_behind last ended (ltb (suc hi) 1114112) refl in
    let pos : 0 < suc lo = omega arith in
    rw (is, d'-inner pos, begun, inner pos, at) (SetsSpan-inner eq d xs (suc lo) hi v (option_to_list ends ++ drop behind xs) same f pos (omega arith) tail)
