-- Proofs of the laws of canonical order.
-- order_twice, order_is_reached, order_is_only, starters_stay, marks_move, equals_keep_order   the laws of the same names
use Rattle.std.proofs.Common.{◌≡◌, ℕ, zero, suc, ◌<◌, ◌≤◌, Bool, true, false, cond, ◌==◌, List, [], ◌∷◌, ◌++◌, refl, sym, ap, ◌∙◌, subst, inl, inr, arith, append_assoc, append-nil}
use Rattle.std.specs.List.{list_all, All, filter}
use Rattle.std.proofs.lemmas.Bool.{cases_lt, lt-ltb, le-ltb, and_parts}
use Rattle.std.proofs.lemmas.Bool.Decides.{nat_tests}
use Rattle.std.proofs.lemmas.List.Elements.{All-head, All-tail, filter-append}
use Rattle.std.proofs.Math.Bool.{and-false}
use Rattle.ucd_model.specs.CanonicalOrder.{greater, placed, with_next, order_onto, order}
use Rattle.normalisation.specs.OrderLaws.{Exchanges, ended, exchanged, InOrder, OrderIsReached, OrderIsOnly, OrderTwice, StartersStay, NonstartersPassGreaterClasses, EqualsKeepOrder}
use Rattle.normalisation.specs.OrderLemmas.{Ordered, Ordered-back, with_next_starter, with_next_mark, order_onto-append, order-ordered, order_is_ordered, with_next_either}

pub order_twice : OrderTwice
order_twice class xs = order-ordered class (order class xs) (order_is_ordered class xs)

-- ---- no reorderable pair

ordered_in_order : (class : ℕ → ℕ) (k : ℕ) (xs : List ℕ) → Ordered class k xs → InOrder class xs
ordered_in_order class k xs o before after a b is pair =
    let back = Ordered-back class k before (a ∷ b ∷ after) (subst (Ordered class k) is o) in
    let follows = back.1.0 pair.0 in
    absurd (omega (arith, pair.1))

in_order_behind : (class : ℕ → ℕ) (x : ℕ) (xs : List ℕ) → InOrder class (x ∷ xs) → Ordered class (class x) xs
in_order_behind class x [] in_order = tt
in_order_behind class x (y ∷ xs) in_order = (
  λ some. elim (cases_lt (class y) (class x)) [ inl lt ↦ absurd (in_order [] xs x y refl (some, lt)) | inr le ↦ le ],
  in_order_behind class y xs (λ before after a b is. in_order (x ∷ before) after a b (ap (λ zs. x ∷ zs) is)),
)

in_order_ordered : (class : ℕ → ℕ) (xs : List ℕ) → InOrder class xs → Ordered class 0 xs
in_order_ordered class [] in_order = tt
in_order_ordered class (x ∷ xs) in_order = (λ some. omega arith, in_order_behind class x xs in_order)

-- ---- exchanges

exchanges_behind : (class : ℕ → ℕ) (x : ℕ) (end xs : List ℕ) → Exchanges class end xs → Exchanges class (x ∷ end) (x ∷ xs)
exchanges_behind class x end xs (ended _ e) = ended (x ∷ xs) (ap (λ zs. x ∷ zs) e)
exchanges_behind class x end xs (exchanged _ before after a b is pair rest) =
    exchanged (x ∷ xs) (x ∷ before) after a b (ap (λ zs. x ∷ zs) is) pair (exchanges_behind class x end (before ++ b ∷ a ∷ after) rest)

exchanges_on : (class : ℕ → ℕ) (end middle xs : List ℕ) → Exchanges class middle xs → Exchanges class end middle → Exchanges class end xs
exchanges_on class end middle xs (ended _ e) more = subst (Exchanges class end) (sym e) more
exchanges_on class end middle xs (exchanged _ before after a b is pair rest) more =
    exchanged xs before after a b is pair (exchanges_on class end middle (before ++ b ∷ a ∷ after) rest more)

moved_past : (class : ℕ → ℕ) (y : ℕ) (xs rest : List ℕ) → 0 < class y → list_all (greater class y) xs ≡ true → Exchanges class (y ∷ (xs ++ rest)) (xs ++ y ∷ rest)
moved_past class y [] rest some all = ended (y ∷ rest) refl
moved_past class y (x ∷ xs) rest some all =
    let parts = and_parts (greater class y x) (list_all (greater class y) xs) all in
    let here : greater class y x ≡ true = parts.0 in
    let lt : class y < class x = grind (arith, nat_tests) in
    exchanges_on class (y ∷ x ∷ (xs ++ rest)) (x ∷ y ∷ (xs ++ rest)) (x ∷ (xs ++ y ∷ rest)) (exchanges_behind class x (y ∷ (xs ++ rest)) (xs ++ y ∷ rest) (moved_past class y xs rest some parts.1))
    (exchanged (x ∷ y ∷ (xs ++ rest)) [] (xs ++ rest) x y refl (some, lt) (ended (y ∷ x ∷ (xs ++ rest)) refl))

placed_reached : (class : ℕ → ℕ) (y : ℕ) (xs rest : List ℕ) → 0 < class y → Exchanges class (placed class y xs ++ rest) (xs ++ y ∷ rest)
placed_reached class y [] rest some = ended (y ∷ rest) refl
placed_reached class y (x ∷ xs) rest some = reached_if (list_all (greater class y) (x ∷ xs)) refl (placed_reached class y xs rest some) where
  reached_if : (t : Bool) → list_all (greater class y) (x ∷ xs) ≡ t → Exchanges class (placed class y xs ++ rest) (xs ++ y ∷ rest) → Exchanges class (cond t (y ∷ x ∷ xs) (x ∷ placed class y xs) ++ rest) (x ∷ (xs ++ y ∷ rest))
  reached_if true all more = moved_past class y (x ∷ xs) rest some all
  reached_if false all more = exchanges_behind class x (placed class y xs ++ rest) (xs ++ y ∷ rest) more

next_reached : (class : ℕ → ℕ) (y n : ℕ) (xs rest : List ℕ) → class y ≡ n → Exchanges class (with_next class xs y ++ rest) (xs ++ y ∷ rest)
next_reached class y zero xs rest e = ended (xs ++ y ∷ rest) (sym (ap (λ zs. zs ++ rest) (with_next_starter class xs y e) ∙ append_assoc xs (y ∷ []) rest))
next_reached class y (suc n) xs rest e =
    let some : 0 < class y = omega arith in
    subst (λ (zs : List ℕ). Exchanges class (zs ++ rest) (xs ++ y ∷ rest)) (sym (with_next_mark class xs y some)) (placed_reached class y xs rest some)

order_onto_reached : (class : ℕ → ℕ) (done rest : List ℕ) → Exchanges class (order_onto class done rest) (done ++ rest)
order_onto_reached class done [] = ended (done ++ []) (append-nil done)
order_onto_reached class done (y ∷ rest) =
    exchanges_on class (order_onto class (with_next class done y) rest) (with_next class done y ++ rest) (done ++ y ∷ rest) (next_reached class y (class y) done rest refl) (order_onto_reached class (with_next class done y) rest)

pub order_is_reached : OrderIsReached
order_is_reached class xs = (order_onto_reached class [] xs, ordered_in_order class 0 (order class xs) (order_is_ordered class xs))

-- ---- and nothing else

exchanges_order : (class : ℕ → ℕ) (end xs : List ℕ) → Exchanges class end xs → order class xs ≡ order class end
exchanges_order class end xs (ended _ e) = ap (order class) e
exchanges_order class end xs (exchanged _ before after a b is pair rest) =
    ap (order class) is ∙ order_onto-append class [] before (a ∷ b ∷ after) ∙ ap (λ zs. order_onto class zs after) (with_next_either class a b (order class before) pair.0 pair.1)
    ∙ sym (order_onto-append class [] before (b ∷ a ∷ after)) ∙ exchanges_order class end (before ++ b ∷ a ∷ after) rest

pub order_is_only : OrderIsOnly
order_is_only class xs ys reached in_order = sym (exchanges_order class ys xs reached ∙ order-ordered class ys (in_order_ordered class ys in_order))

-- ---- one point more

order_push : (class : ℕ → ℕ) (xs : List ℕ) (y : ℕ) → order class (xs ++ y ∷ []) ≡ with_next class (order class xs) y
order_push class xs y = order_onto-append class [] xs (y ∷ [])

pub starters_stay : StartersStay
starters_stay class xs y e = order_push class xs y ∙ with_next_starter class (order class xs) y e

all_greater : (class : ℕ → ℕ) (y : ℕ) (xs : List ℕ) → All (λ m. class y < class m) xs → list_all (greater class y) xs ≡ true
all_greater class y [] all = refl
all_greater class y (x ∷ xs) all = rw (lt-ltb (class y) (class x) (All-head (λ m. class y < class m) x xs all)) (all_greater class y xs (All-tail (λ m. class y < class m) x xs all))

placed_first : (class : ℕ → ℕ) (y : ℕ) (xs : List ℕ) → list_all (greater class y) xs ≡ true → placed class y xs ≡ y ∷ xs
placed_first class y [] all = refl
placed_first class y (x ∷ xs) all = rw all refl

stops_at : (p : ℕ → Bool) (before after : List ℕ) (x : ℕ) → p x ≡ false → list_all p (before ++ x ∷ after) ≡ false
stops_at p [] after x e = rw e refl
stops_at p (b ∷ before) after x e = rw (stops_at p before after x e) (and-false (p b))

placed_behind : (class : ℕ → ℕ) (y x : ℕ) (before after : List ℕ) → list_all (greater class y) after ≡ true → class x ≤ class y → placed class y (before ++ x ∷ after) ≡ before ++ x ∷ y ∷ after
placed_behind class y x [] after all le = rw (stops_at (greater class y) [] after x (le-ltb (class y) (class x) le), placed_first class y after all) refl
placed_behind class y x (b ∷ before) after all le = rw (stops_at (greater class y) (b ∷ before) after x (le-ltb (class y) (class x) le)) (ap (λ zs. b ∷ zs) (placed_behind class y x before after all le))

pub marks_move : NonstartersPassGreaterClasses
marks_move class xs before after x y some all =
    let greater_all = all_greater class y after all in (
      λ is. order_push class xs y ∙ with_next_mark class (order class xs) y some ∙ ap (placed class y) is ∙ placed_first class y after greater_all,
      λ is le. order_push class xs y ∙ with_next_mark class (order class xs) y some ∙ ap (placed class y) is ∙ placed_behind class y x before after greater_all le,
    )

-- ---- points of one class

module _ (class : ℕ → ℕ) (k : ℕ) where
  moved_if : (x y : ℕ) (F : List ℕ) (t u : Bool) → class y < class x → (class y == k) ≡ t → (class x == k) ≡ u → cond t (y ∷ cond u (x ∷ F) F) (cond u (x ∷ F) F) ≡ cond u (x ∷ cond t (y ∷ F) F) (cond t (y ∷ F) F)
  moved_if x y F true true lt e f = absurd (grind (arith, nat_tests))
  moved_if x y F true false lt e f = refl
  moved_if x y F false u lt e f = refl

  filter_moved : (y : ℕ) (xs : List ℕ) → list_all (greater class y) xs ≡ true → filter (λ x. class x == k) (y ∷ xs) ≡ filter (λ x. class x == k) (xs ++ y ∷ [])
  filter_moved y [] all = refl
  filter_moved y (x ∷ xs) all =
      let parts = and_parts (greater class y x) (list_all (greater class y) xs) all in
      let here : greater class y x ≡ true = parts.0 in
      let lt : class y < class x = grind (arith, nat_tests) in
      moved_if x y (filter (λ x. class x == k) xs) (class y == k) (class x == k) lt refl refl ∙ ap (λ zs. cond (class x == k) (x ∷ zs) zs) (filter_moved y xs parts.1)

  filter_if : (y x : ℕ) (xs : List ℕ) (t : Bool) → list_all (greater class y) (x ∷ xs) ≡ t → filter (λ x. class x == k) (placed class y xs) ≡ filter (λ x. class x == k) (xs ++ y ∷ [])
      → filter (λ x. class x == k) (cond t (y ∷ x ∷ xs) (x ∷ placed class y xs)) ≡ filter (λ x. class x == k) (x ∷ (xs ++ y ∷ []))
  filter_if y x xs true all rest = filter_moved y (x ∷ xs) all
  filter_if y x xs false all rest = ap (λ zs. cond (class x == k) (x ∷ zs) zs) rest

  filter-placed : (y : ℕ) (xs : List ℕ) → filter (λ x. class x == k) (placed class y xs) ≡ filter (λ x. class x == k) (xs ++ y ∷ [])
  filter-placed y [] = refl
  filter-placed y (x ∷ xs) = filter_if y x xs (list_all (greater class y) (x ∷ xs)) refl (filter-placed y xs)

  filter-next : (xs : List ℕ) (y : ℕ) (t : Bool) → filter (λ x. class x == k) (cond t (xs ++ y ∷ []) (placed class y xs)) ≡ filter (λ x. class x == k) (xs ++ y ∷ [])
  filter-next xs y true = refl
  filter-next xs y false = filter-placed y xs

  filter-order_onto : (done rest : List ℕ) → filter (λ x. class x == k) (order_onto class done rest) ≡ filter (λ x. class x == k) (done ++ rest)
  filter-order_onto done [] = ap (filter (λ x. class x == k)) (sym (append-nil done))
  filter-order_onto done (y ∷ rest) =
      filter-order_onto (with_next class done y) rest ∙ filter-append (λ x. class x == k) (with_next class done y) rest ∙ ap (λ zs. zs ++ filter (λ x. class x == k) rest) (filter-next done y (class y == 0))
      ∙ sym (filter-append (λ x. class x == k) (done ++ y ∷ []) rest) ∙ ap (filter (λ x. class x == k)) (append_assoc done (y ∷ []) rest)

pub equals_keep_order : EqualsKeepOrder
equals_keep_order class k xs = filter-order_onto class k [] xs
