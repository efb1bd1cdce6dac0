-- The values of all code points, kept as the first value and the places where the value changes.
-- Layout                    the value of point 0, and the changes
-- value_at d xs c           the value at c, where it is d up to the first change of xs
-- values l c                the value at c of a layout
-- Follows eq low d x        the change x may stand after a run of the value d that begins at low
-- Follow eq low d xs        the same of the changes xs, one after another
-- IsLayout eq first xs      what holds of every layout
-- count_before s xs         how many changes at the front of xs come before s
-- value_of_run d xs i       the value of run i, where run 0 has the value d and run i + 1 begins at change i
-- IsEnd eq f c e            e is one past the last code point of the run of equal values of f that c lies in
use Rattle.std.specs.Prelude.{◌≡◌, ℕ, zero, suc, ◌<◌, ◌≤◌, Bool, true, false, List, [], ◌∷◌, nat_lt, if◌then◌else◌, ⊤}
use Rattle.range_table.specs.declared.change.Change.{Change}

pub record Layout (V : Type 0) : Type 0 where
  pub first : V
  pub changes : List (Change V)

abbrev pub value_at : {V : Type 0} → V → List (Change V) → ℕ → V
value_at d [] c = d
value_at d (x ∷ xs) c = if nat_lt c x.start then d else value_at x.value xs c

abbrev pub values : {V : Type 0} → Layout V → ℕ → V
values l c = value_at l.first l.changes c

pub record Follows {V : Type 0} (eq : V → V → Bool) (low : ℕ) (d : V) (x : Change V) : Type 0 where
  -- the changes ascend, and the first is not at 0
  pub ascends : low < x.start
  -- a change is at a code point
  pub is_point : x.start < 1114112
  -- runs are maximal: equal neighbours are one run
  pub differs : eq d x.value ≡ false

abbrev pub Follow : {V : Type 0} → (V → V → Bool) → ℕ → V → List (Change V) → Type 0
Follow eq low d [] = ⊤
Follow eq low d (x ∷ xs) = Follows eq low d x × Follow eq x.start x.value xs

pub record IsLayout {V : Type 0} (eq : V → V → Bool) (first : V) (xs : List (Change V)) : Type 0 where
  -- values that are equal by `==` are the same value
  pub same : (a b : V) → eq a b ≡ true → a ≡ b
  pub follow : Follow eq 0 first xs

abbrev pub count_before : {V : Type 0} → ℕ → List (Change V) → ℕ
count_before s [] = 0
count_before s (x ∷ xs) = if nat_lt x.start s then suc (count_before s xs) else 0

abbrev pub value_of_run : {V : Type 0} → V → List (Change V) → ℕ → V
value_of_run d [] i = d
value_of_run d (x ∷ xs) zero = d
value_of_run d (x ∷ xs) (suc i) = value_of_run x.value xs i

pub record IsEnd {V : Type 0} (eq : V → V → Bool) (f : ℕ → V) (c e : ℕ) : Type 0 where
  pub above : c < e
  pub is_point : e ≤ 1114112
  pub same : (k : ℕ) → c ≤ k → k < e → f k ≡ f c
  pub differs : e < 1114112 → eq (f c) (f e) ≡ false
