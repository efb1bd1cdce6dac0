-- What the changes are after a span was given a value: those before it, at most two of its own, and those behind it.
use Rattle.std.proofs.Common.{◌≡◌, ℕ, suc, ◌<◌, ◌≤◌, Bool, true, false, List, [], ◌∷◌, ◌++◌, length, take, drop, refl, cond, ltb, arith, Option, None, Some, option_to_list}
use Rattle.std.proofs.lemmas.Bool.Decides.{nat_tests}
use Rattle.range_table.specs.declared.change.Change.{Change}
use Rattle.range_table.specs.Layout.{Follow, value_at, count_before, value_of_run}

-- what has to stand at s for values that are d before it and v from it on
abbrev pub change_to : {A : Type 0} → (A → A → Bool) → A → ℕ → A → Option (Change A)
change_to eq d s v = cond (eq d v) None (Some (record { start = s; value = v }))

-- up to the first change the value stays
pub value_at-low : {A : Type 0} (eq : A → A → Bool) (low : ℕ) (d : A) (xs : List (Change A)) (c : ℕ) → Follow eq low d xs → c ≤ low → value_at d xs c ≡ d
value_at-low eq low d [] c f h = refl
value_at-low eq low d (x ∷ xs) c f h = let ascends = f.0.ascends in grind (arith, nat_tests)

pub Follow-lower : {A : Type 0} (eq : A → A → Bool) (low s : ℕ) (d : A) (xs : List (Change A)) → low ≤ s → Follow eq s d xs → Follow eq low d xs
Follow-lower eq low s d [] h f = f
Follow-lower eq low s d (x ∷ xs) h f =
    let ascends = f.0.ascends in
    (record { ascends = omega arith; is_point = f.0.is_point; differs = f.0.differs }, f.1)

cond-eta : {A : Type 0} (b : Bool) (x y : A) → (b ≡ true → y ≡ x) → y ≡ cond b x y
cond-eta true x y h = h refl
cond-eta false x y h = refl

value_at-by_test : {A : Type 0} (eq : A → A → Bool) (d : A) (s : ℕ) (v : A) (rest : List (Change A)) (c : ℕ) → ((a b : A) → eq a b ≡ true → a ≡ b) → Follow eq s v rest → (t : Bool) → eq d v ≡ t → value_at d (option_to_list (cond t None (Some (record { start = s; value = v }))) ++ rest) c ≡ cond (ltb c s) d (value_at v rest c)
value_at-by_test eq d s v rest c same f true e =
    rw (same d v e)
    (cond-eta (ltb c s) v (value_at v rest c) (λ lt. value_at-low eq s v rest c f (grind (arith, nat_tests))))
value_at-by_test eq d s v rest c same f false e = refl

-- the values round the beginning of a run
pub value_at-change_to : {A : Type 0} (eq : A → A → Bool) (d : A) (s : ℕ) (v : A) (rest : List (Change A)) (c : ℕ) → ((a b : A) → eq a b ≡ true → a ≡ b) → Follow eq s v rest → value_at d (option_to_list (change_to eq d s v) ++ rest) c ≡ cond (ltb c s) d (value_at v rest c)
value_at-change_to eq d s v rest c same f = value_at-by_test eq d s v rest c same f (eq d v) refl

Follow-by_test : {A : Type 0} (eq : A → A → Bool) (low : ℕ) (d : A) (s : ℕ) (v : A) (rest : List (Change A)) → ((a b : A) → eq a b ≡ true → a ≡ b) → low < s → s < 1114112 → Follow eq s v rest → (t : Bool) → eq d v ≡ t → Follow eq low d (option_to_list (cond t None (Some (record { start = s; value = v }))) ++ rest)
Follow-by_test eq low d s v rest same lt is_point f true e = rw (same d v e) (Follow-lower eq low s v rest (omega arith) f)
Follow-by_test eq low d s v rest same lt is_point f false e =
    (record { ascends = lt; is_point = is_point; differs = e }, f)

pub Follow-change_to : {A : Type 0} (eq : A → A → Bool) (low : ℕ) (d : A) (s : ℕ) (v : A) (rest : List (Change A)) → ((a b : A) → eq a b ≡ true → a ≡ b) → low < s → s < 1114112 → Follow eq s v rest → Follow eq low d (option_to_list (change_to eq d s v) ++ rest)
Follow-change_to eq low d s v rest same lt is_point f = Follow-by_test eq low d s v rest same lt is_point f (eq d v) refl

Follow-behind_by_test : {A : Type 0} (eq : A → A → Bool) (low b : ℕ) (d : A) (x : Change A) (xs : List (Change A)) → Follow eq low d (x ∷ xs) → (t : Bool) → ltb b x.start ≡ t → (x.start ≤ b → Follow eq b (value_at x.value xs b) (drop (count_before (suc b) xs) xs)) → Follow eq b (value_at d (x ∷ xs) b) (drop (count_before (suc b) (x ∷ xs)) (x ∷ xs))
Follow-behind_by_test eq low b d x xs f true e rest =
    let other : ltb x.start (suc b) ≡ false = grind (arith, nat_tests) in
    rw (e, other)
    (record { ascends = grind (arith, nat_tests); is_point = f.0.is_point; differs = f.0.differs }, f.1)
Follow-behind_by_test eq low b d x xs f false e rest =
    let other : ltb x.start (suc b) ≡ true = grind (arith, nat_tests) in
    rw (e, other) (rest (grind (arith, nat_tests)))

-- the changes behind b follow its value
pub Follow-behind : {A : Type 0} (eq : A → A → Bool) (low b : ℕ) (d : A) (xs : List (Change A)) → Follow eq low d xs → Follow eq b (value_at d xs b) (drop (count_before (suc b) xs) xs)
Follow-behind eq low b d [] f = f
Follow-behind eq low b d (x ∷ xs) f =
    Follow-behind_by_test eq low b d x xs f (ltb b x.start) refl (λ le. Follow-behind eq x.start b x.value xs f.1)

value_at-behind_by_test : {A : Type 0} (b c : ℕ) (d : A) (x : Change A) (xs : List (Change A)) → b ≤ c → (t : Bool) → ltb b x.start ≡ t → value_at (value_at x.value xs b) (drop (count_before (suc b) xs) xs) c ≡ value_at x.value xs c → value_at (value_at d (x ∷ xs) b) (drop (count_before (suc b) (x ∷ xs)) (x ∷ xs)) c ≡ value_at d (x ∷ xs) c
value_at-behind_by_test b c d x xs h true e rest =
    let other : ltb x.start (suc b) ≡ false = grind (arith, nat_tests) in
    rw (e, other) refl
value_at-behind_by_test b c d x xs h false e rest =
    let other : ltb x.start (suc b) ≡ true = grind (arith, nat_tests) in
    let third : ltb c x.start ≡ false = grind (arith, nat_tests) in
    rw (e, other, third) rest

-- and give the values from b on
pub value_at-behind : {A : Type 0} (b c : ℕ) (d : A) (xs : List (Change A)) → b ≤ c → value_at (value_at d xs b) (drop (count_before (suc b) xs) xs) c ≡ value_at d xs c
value_at-behind b c d [] h = refl
value_at-behind b c d (x ∷ xs) h = value_at-behind_by_test b c d x xs h (ltb b x.start) refl (value_at-behind b c x.value xs h)

pub count_before-all : {A : Type 0} (eq : A → A → Bool) (low : ℕ) (d : A) (s : ℕ) (xs : List (Change A)) → Follow eq low d xs → 1114112 ≤ s → count_before s xs ≡ length xs
count_before-all eq low d s [] f h = refl
count_before-all eq low d s (x ∷ xs) f h =
    let here = f.0.is_point in
    let rest = count_before-all eq x.start x.value s xs f.1 h in
    grind (arith, nat_tests)

cond-swap : {A : Type 0} (p q : Bool) (d u w : A) → (p ≡ true → q ≡ true) → cond p d (cond q u w) ≡ cond q (cond p d u) w
cond-swap true true d u w h = refl
cond-swap true false d u w h = cc (h refl)
cond-swap false true d u w h = refl
cond-swap false false d u w h = refl

value_at-front_by_test : {A : Type 0} (lo : ℕ) (d : A) (x : Change A) (xs : List (Change A)) (rest : List (Change A)) (c : ℕ) → (t : Bool) → ltb x.start lo ≡ t → (((k : ℕ) → k < lo → value_at (value_of_run x.value xs (count_before lo xs)) rest k ≡ value_of_run x.value xs (count_before lo xs)) → value_at x.value (take (count_before lo xs) xs ++ rest) c ≡ cond (ltb c lo) (value_at x.value xs c) (value_at (value_of_run x.value xs (count_before lo xs)) rest c)) → ((k : ℕ) → k < lo → value_at (value_of_run d (x ∷ xs) (cond t (suc (count_before lo xs)) 0)) rest k ≡ value_of_run d (x ∷ xs) (cond t (suc (count_before lo xs)) 0)) → value_at d (take (cond t (suc (count_before lo xs)) 0) (x ∷ xs) ++ rest) c ≡ cond (ltb c lo) (value_at d (x ∷ xs) c) (value_at (value_of_run d (x ∷ xs) (cond t (suc (count_before lo xs)) 0)) rest c)
value_at-front_by_test lo d x xs rest c true e ih h =
    rw (ih h) (cond-swap (ltb c x.start) (ltb c lo) d (value_at x.value xs c) (value_at (value_of_run x.value xs (count_before lo xs)) rest c) (λ lt. grind (arith, nat_tests)))
value_at-front_by_test lo d x xs rest c false e ih h =
    cond-eta (ltb c lo) (value_at d (x ∷ xs) c) (value_at d rest c)
    (λ lt.
    let below : ltb c x.start ≡ true = grind (arith, nat_tests) in
    rw below (h c (grind (arith, nat_tests))))

-- the values of the changes before lo with others behind them
pub value_at-front : {A : Type 0} (lo : ℕ) (d : A) (xs : List (Change A)) (rest : List (Change A)) (c : ℕ) → ((k : ℕ) → k < lo → value_at (value_of_run d xs (count_before lo xs)) rest k ≡ value_of_run d xs (count_before lo xs)) → value_at d (take (count_before lo xs) xs ++ rest) c ≡ cond (ltb c lo) (value_at d xs c) (value_at (value_of_run d xs (count_before lo xs)) rest c)
value_at-front lo d [] rest c h = cond-eta (ltb c lo) d (value_at d rest c) (λ lt. h c (grind (arith, nat_tests)))
value_at-front lo d (x ∷ xs) rest c h =
    value_at-front_by_test lo d x xs rest c (ltb x.start lo) refl (value_at-front lo x.value xs rest c) h

Follow-front_by_test : {A : Type 0} (eq : A → A → Bool) (low lo : ℕ) (d : A) (x : Change A) (xs : List (Change A)) (rest : List (Change A)) → Follow eq low d (x ∷ xs) → low < lo → (t : Bool) → ltb x.start lo ≡ t → (x.start < lo → ((k : ℕ) → k < lo → Follow eq k (value_of_run x.value xs (count_before lo xs)) rest) → Follow eq x.start x.value (take (count_before lo xs) xs ++ rest)) → ((k : ℕ) → k < lo → Follow eq k (value_of_run d (x ∷ xs) (cond t (suc (count_before lo xs)) 0)) rest) → Follow eq low d (take (cond t (suc (count_before lo xs)) 0) (x ∷ xs) ++ rest)
Follow-front_by_test eq low lo d x xs rest f lt true e ih h = (f.0, ih (grind (arith, nat_tests)) h)
Follow-front_by_test eq low lo d x xs rest f lt false e ih h = h low lt

pub Follow-front : {A : Type 0} (eq : A → A → Bool) (low lo : ℕ) (d : A) (xs : List (Change A)) (rest : List (Change A)) → Follow eq low d xs → low < lo → ((k : ℕ) → k < lo → Follow eq k (value_of_run d xs (count_before lo xs)) rest) → Follow eq low d (take (count_before lo xs) xs ++ rest)
Follow-front eq low lo d [] rest f lt h = h low lt
Follow-front eq low lo d (x ∷ xs) rest f lt h =
    Follow-front_by_test eq low lo d x xs rest f lt (ltb x.start lo) refl (λ below. Follow-front eq x.start lo x.value xs rest f.1 below) h
