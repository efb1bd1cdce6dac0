-- Lists in canonical order.
-- last_class class k xs         the class of the last point; k where there is none
-- Ordered class k xs            behind a point of class k, no point of non-zero class has a class less than the point before it
-- with_next_starter             one more point of class 0 stays at the end
-- with_next_mark                one more point of another class is placed
-- placed_end                    a point is placed at the end where its class is not less than the last class
-- with_next_end                 one more point stays at the end where its class is 0, or not less than the last class
-- last_class-append             the last class of two joined lists is that of the second, behind that of the first
-- Ordered-append                two joined lists are Ordered where the first is, and the second is behind the last class of the
--                               first
-- Ordered-back                  where two joined lists are Ordered, so is the second, behind the last class of the first
-- Ordered-push                  an Ordered list with one more point is Ordered, where its class is 0, or not less than the last
--                               class
-- order_onto-append             putting two joined lists in order is putting the first in order, and then the second behind it
-- order-ordered                 what is Ordered stays
-- order_is_ordered              the ordered list is Ordered
-- list_all-placed               a test passes on every member of a list with y placed where it does on y and on every member of
--                               the list
-- placed_either                 two points of different classes are placed in either turn, with one result
-- with_next_either              so two marks of different classes are put behind a list in either turn
-- AllLess class y xs            each class in xs is not 0, and less than that of y
-- order_past                    the ordered list is the same whether y is read before such a list or behind it
use Rattle.std.proofs.Common.{◌≡◌, ℕ, zero, suc, ◌<◌, ◌≤◌, Bool, true, false, cond, ◌&&◌, ◌==◌, List, [], ◌∷◌, ◌++◌, refl, sym, ap, ◌∙◌, arith, lt-ltb, le-ltb, append_assoc, append-nil}
use Rattle.std.specs.Prelude.{⊤}
use Rattle.std.specs.List.{list_all}
use Rattle.std.proofs.lemmas.Bool.Decides.{nat_tests}
use Rattle.std.proofs.Math.Bool.{and-false}
use Rattle.ucd_model.specs.CanonicalOrder.{greater, placed, with_next, order_onto, order}

abbrev pub last_class : (ℕ → ℕ) → ℕ → List ℕ → ℕ
last_class class k [] = k
last_class class k (x ∷ xs) = last_class class (class x) xs

abbrev pub Ordered : (ℕ → ℕ) → ℕ → List ℕ → Type 0
Ordered class k [] = ⊤
Ordered class k (x ∷ xs) = (0 < class x → k ≤ class x) × Ordered class (class x) xs

-- ---- with one more point

pub with_next_starter : (class : ℕ → ℕ) (xs : List ℕ) (y : ℕ) → class y ≡ 0 → with_next class xs y ≡ xs ++ y ∷ []
with_next_starter class xs y e = let t : (class y == 0) ≡ true = grind (arith, nat_tests) in rw t refl

pub with_next_mark : (class : ℕ → ℕ) (xs : List ℕ) (y : ℕ) → 0 < class y → with_next class xs y ≡ placed class y xs
with_next_mark class xs y lt = let t : (class y == 0) ≡ false = grind (arith, nat_tests) in rw t refl

last_stops : (class : ℕ → ℕ) (y x : ℕ) (xs : List ℕ) → last_class class (class x) xs ≤ class y → list_all (greater class y) (x ∷ xs) ≡ false
last_stops class y x [] le = rw (le-ltb (class y) (class x) le) refl
last_stops class y x (x' ∷ xs) le = rw (last_stops class y x' xs le) (and-false (greater class y x))

pub placed_end : (class : ℕ → ℕ) (y k : ℕ) (xs : List ℕ) → last_class class k xs ≤ class y → placed class y xs ≡ xs ++ y ∷ []
placed_end class y k [] le = refl
placed_end class y k (x ∷ xs) le = rw (last_stops class y x xs le) (ap (λ zs. x ∷ zs) (placed_end class y (class x) xs le))

pub with_next_end : (class : ℕ → ℕ) (y : ℕ) (xs : List ℕ) → (0 < class y → last_class class 0 xs ≤ class y) → with_next class xs y ≡ xs ++ y ∷ []
with_next_end class y xs follows = next_end (class y) refl where
  next_end : (n : ℕ) → class y ≡ n → with_next class xs y ≡ xs ++ y ∷ []
  next_end zero e = with_next_starter class xs y e
  next_end (suc n) e = let some : 0 < class y = omega arith in with_next_mark class xs y some ∙ placed_end class y 0 xs (follows some)

-- ---- the last class and order of joined lists

pub last_class-append : (class : ℕ → ℕ) (k : ℕ) (xs ys : List ℕ) → last_class class k (xs ++ ys) ≡ last_class class (last_class class k xs) ys
last_class-append class k [] ys = refl
last_class-append class k (x ∷ xs) ys = last_class-append class (class x) xs ys

pub Ordered-append : (class : ℕ → ℕ) (k : ℕ) (xs ys : List ℕ) → Ordered class k xs → Ordered class (last_class class k xs) ys → Ordered class k (xs ++ ys)
Ordered-append class k [] ys o p = p
Ordered-append class k (x ∷ xs) ys o p = (o.0, Ordered-append class (class x) xs ys o.1 p)

pub Ordered-back : (class : ℕ → ℕ) (k : ℕ) (xs ys : List ℕ) → Ordered class k (xs ++ ys) → Ordered class (last_class class k xs) ys
Ordered-back class k [] ys o = o
Ordered-back class k (x ∷ xs) ys o = Ordered-back class (class x) xs ys o.1

pub Ordered-push : (class : ℕ → ℕ) (k : ℕ) (xs : List ℕ) (y : ℕ) → Ordered class k xs → (0 < class y → last_class class k xs ≤ class y) → Ordered class k (xs ++ y ∷ [])
Ordered-push class k xs y o follows = Ordered-append class k xs (y ∷ []) o (follows, tt)

-- ---- what is in order stays

pub order_onto-append : (class : ℕ → ℕ) (done xs ys : List ℕ) → order_onto class done (xs ++ ys) ≡ order_onto class (order_onto class done xs) ys
order_onto-append class done [] ys = refl
order_onto-append class done (x ∷ xs) ys = order_onto-append class (with_next class done x) xs ys

order_onto-ordered : (class : ℕ → ℕ) (done rest : List ℕ) → Ordered class (last_class class 0 done) rest → order_onto class done rest ≡ done ++ rest
order_onto-ordered class done [] o = sym (append-nil done)
order_onto-ordered class done (y ∷ rest) o =
    let next = with_next_end class y done o.0 in
    let o' : Ordered class (last_class class 0 (done ++ y ∷ [])) rest = rw (last_class-append class 0 done (y ∷ [])) o.1 in
    ap (λ zs. order_onto class zs rest) next ∙ order_onto-ordered class (done ++ y ∷ []) rest o' ∙ append_assoc done (y ∷ []) rest

pub order-ordered : (class : ℕ → ℕ) (xs : List ℕ) → Ordered class 0 xs → order class xs ≡ xs
order-ordered class xs o = order_onto-ordered class [] xs o

-- ---- the result is in order

placed_ordered_if : (class : ℕ → ℕ) (k y x : ℕ) (xs : List ℕ) → 0 < class y → Ordered class k (x ∷ xs) → (t u : Bool) → greater class y x ≡ t → list_all (greater class y) xs ≡ u → (t && u ≡ true → k ≤ class y)
    → ((u ≡ true → class x ≤ class y) → Ordered class (class x) (placed class y xs)) → Ordered class k (cond (t && u) (y ∷ x ∷ xs) (x ∷ placed class y xs))
placed_ordered_if class k y x xs some o true true e f below rest =
    let lt : class y < class x = grind (arith, nat_tests) in
    (λ _. below refl, (λ _. omega arith, o.1))
placed_ordered_if class k y x xs some o true false e f below rest = (o.0, rest (λ g. cc))
placed_ordered_if class k y x xs some o false u e f below rest = (o.0, rest (λ g. grind (arith, nat_tests)))

placed_ordered : (class : ℕ → ℕ) (k y : ℕ) (xs : List ℕ) → 0 < class y → Ordered class k xs → (list_all (greater class y) xs ≡ true → k ≤ class y) → Ordered class k (placed class y xs)
placed_ordered class k y [] some o below = (λ _. below refl, tt)
placed_ordered class k y (x ∷ xs) some o below =
    placed_ordered_if class k y x xs some o (greater class y x) (list_all (greater class y) xs) refl refl below (placed_ordered class (class x) y xs some o.1)

with_next_ordered : (class : ℕ → ℕ) (xs : List ℕ) (y n : ℕ) → class y ≡ n → Ordered class 0 xs → Ordered class 0 (with_next class xs y)
with_next_ordered class xs y zero e o = rw (with_next_starter class xs y e) (Ordered-push class 0 xs y o (λ some. absurd (omega arith)))
with_next_ordered class xs y (suc n) e o =
    let some : 0 < class y = omega arith in
    rw (with_next_mark class xs y some) (placed_ordered class 0 y xs some o (λ _. omega arith))

order_onto_is_ordered : (class : ℕ → ℕ) (done rest : List ℕ) → Ordered class 0 done → Ordered class 0 (order_onto class done rest)
order_onto_is_ordered class done [] o = o
order_onto_is_ordered class done (y ∷ rest) o = order_onto_is_ordered class (with_next class done y) rest (with_next_ordered class done y (class y) refl o)

pub order_is_ordered : (class : ℕ → ℕ) (xs : List ℕ) → Ordered class 0 (order class xs)
order_is_ordered class xs = order_onto_is_ordered class [] xs tt

-- ---- two marks of different classes are placed in either turn

list_all-if : (p : ℕ → Bool) (t : Bool) (xs ys : List ℕ) (b : Bool) → list_all p xs ≡ b → list_all p ys ≡ b → list_all p (cond t xs ys) ≡ b
list_all-if p true xs ys b e f = e
list_all-if p false xs ys b e f = f

and_swap : (a b c : Bool) → a && (b && c) ≡ (b && (a && c))
and_swap true b c = refl
and_swap false true c = refl
and_swap false false c = refl

pub list_all-placed : (class : ℕ → ℕ) (p : ℕ → Bool) (y : ℕ) (xs : List ℕ) → list_all p (placed class y xs) ≡ (p y && list_all p xs)
list_all-placed class p y [] = refl
list_all-placed class p y (x ∷ xs) =
    list_all-if p (list_all (greater class y) (x ∷ xs)) (y ∷ x ∷ xs) (x ∷ placed class y xs) (p y && list_all p (x ∷ xs)) refl
    (ap (λ b. p x && b) (list_all-placed class p y xs) ∙ and_swap (p x) (p y) (list_all p xs))

greater_both : (class : ℕ → ℕ) (a b x : ℕ) (t u v : Bool) → class b < class a → greater class a x ≡ t → (u ≡ true → v ≡ true) → t && u ≡ true → (greater class b x && v) ≡ true
greater_both class a b x true u v lt e rest both =
    let here : greater class b x ≡ true = grind (arith, nat_tests) in
    rw here (rest both)
greater_both class a b x false u v lt e rest both = cc

greater_all : (class : ℕ → ℕ) (a b : ℕ) (xs : List ℕ) → class b < class a → list_all (greater class a) xs ≡ true → list_all (greater class b) xs ≡ true
greater_all class a b [] lt e = refl
greater_all class a b (x ∷ xs) lt e = greater_both class a b x (greater class a x) (list_all (greater class a) xs) (list_all (greater class b) xs) lt refl (greater_all class a b xs lt) e

module _ (class : ℕ → ℕ) (a b : ℕ) (lt : class b < class a) where
  a_stays : greater class a b ≡ false
  a_stays = le-ltb (class a) (class b) (omega arith)

  b_passes : greater class b a ≡ true
  b_passes = lt-ltb (class b) (class a) lt

  past_b : (xs : List ℕ) → placed class a (b ∷ xs) ≡ b ∷ placed class a xs
  past_b xs = rw a_stays refl

  placed_both : (x : ℕ) (xs : List ℕ) (A B : Bool) → list_all (greater class a) (x ∷ xs) ≡ A → list_all (greater class b) (x ∷ xs) ≡ B → placed class b (placed class a xs) ≡ placed class a (placed class b xs)
      → placed class b (cond A (a ∷ x ∷ xs) (x ∷ placed class a xs)) ≡ placed class a (cond B (b ∷ x ∷ xs) (x ∷ placed class b xs))
  placed_both x xs true true e f rest = rw (past_b (x ∷ xs), e, b_passes, f) refl
  placed_both x xs true false e f rest = let g = greater_all class a b (x ∷ xs) lt e in cc
  placed_both x xs false true e f rest =
      let all : list_all (greater class b) (x ∷ placed class a xs) ≡ true = ap (λ t. greater class b x && t) (list_all-placed class (greater class b) a xs ∙ ap (λ t. t && list_all (greater class b) xs) b_passes) ∙ f in
      rw (past_b (x ∷ xs), e, all) refl
  placed_both x xs false false e f rest =
      let over_b : list_all (greater class b) (x ∷ placed class a xs) ≡ false = ap (λ t. greater class b x && t) (list_all-placed class (greater class b) a xs ∙ ap (λ t. t && list_all (greater class b) xs) b_passes) ∙ f in
      let over_a : list_all (greater class a) (x ∷ placed class b xs) ≡ false = ap (λ t. greater class a x && t) (list_all-placed class (greater class a) b xs ∙ ap (λ t. t && list_all (greater class a) xs) a_stays) ∙ and-false (greater class a x) in
      rw (over_b, over_a) (ap (λ zs. x ∷ zs) rest)

  pub placed_either : (xs : List ℕ) → placed class b (placed class a xs) ≡ placed class a (placed class b xs)
  placed_either [] = rw (a_stays, b_passes) refl
  placed_either (x ∷ xs) = placed_both x xs (list_all (greater class a) (x ∷ xs)) (list_all (greater class b) (x ∷ xs)) refl refl (placed_either xs)

pub with_next_either : (class : ℕ → ℕ) (a b : ℕ) (xs : List ℕ) → 0 < class b → class b < class a → with_next class (with_next class xs a) b ≡ with_next class (with_next class xs b) a
with_next_either class a b xs some lt =
    let more : 0 < class a = omega arith in
    rw (with_next_mark class xs a more, with_next_mark class xs b some, with_next_mark class (placed class a xs) b some, with_next_mark class (placed class b xs) a more) (placed_either class a b lt xs)

abbrev pub AllLess : (ℕ → ℕ) → ℕ → List ℕ → Type 0
AllLess class y [] = ⊤
AllLess class y (m ∷ xs) = (0 < class m) × (class m < class y) × AllLess class y xs

pub order_past : (class : ℕ → ℕ) (done b : List ℕ) (y : ℕ) → AllLess class y b → order_onto class done (y ∷ b) ≡ order_onto class done (b ++ y ∷ [])
order_past class done [] y less = refl
order_past class done (m ∷ b) y less = ap (λ zs. order_onto class zs b) (with_next_either class y m done less.0 less.1) ∙ order_past class (with_next class done m) b y less.2
