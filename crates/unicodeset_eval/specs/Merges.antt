-- Two sets put together, edge by edge.
-- emit a b x rest             x and the rest, where membership turns at x from a to another b; else the rest alone
-- only f p q ys               the edges of what f makes of two sets, of which the first has no edges left
-- with_edge f p x next q ys   the same, where x is the first edge that is left of the first set; `next` has those behind x
-- merge f p xs q ys           the same of any two sets; p and q say whether what is before their edges is in
-- turned at b xs              whether what is behind the edge `at` is in
-- passed at xs                the edges behind `at`
-- least xs ys                 the least edge that is left; None where there is none
use Rattle.std.specs.Prelude.{ℕ, Bool, true, false, not, cond, nat_lt, nat_eq, min, List, [], ◌∷◌, Option, Some, None}

abbrev pub emit : Bool → Bool → ℕ → List ℕ → List ℕ
emit true b x rest = cond b rest (x ∷ rest)
emit false b x rest = cond b (x ∷ rest) rest

abbrev pub only : (Bool → Bool → Bool) → Bool → Bool → List ℕ → List ℕ
only f p q [] = []
only f p q (y ∷ ys) = emit (f p q) (f p (not q)) y (only f p (not q) ys)

abbrev pub with_edge : (Bool → Bool → Bool) → Bool → ℕ → (Bool → List ℕ → List ℕ) → Bool → List ℕ → List ℕ
with_edge f p x next q [] = emit (f p q) (f (not p) q) x (next q [])
with_edge f p x next q (y ∷ ys) =
    cond (nat_lt x y) (emit (f p q) (f (not p) q) x (next q (y ∷ ys)))
    (cond (nat_lt y x) (emit (f p q) (f p (not q)) y (with_edge f p x next (not q) ys))
    (emit (f p q) (f (not p) (not q)) x (next (not q) ys)))

abbrev pub merge : (Bool → Bool → Bool) → Bool → List ℕ → Bool → List ℕ → List ℕ
merge f p [] q ys = only f p q ys
merge f p (x ∷ xs) q ys = with_edge f p x (merge f (not p) xs) q ys

abbrev pub turned : ℕ → Bool → List ℕ → Bool
turned at b [] = b
turned at b (x ∷ xs) = cond (nat_eq x at) (not b) b

abbrev pub passed : ℕ → List ℕ → List ℕ
passed at [] = []
passed at (x ∷ xs) = cond (nat_eq x at) xs (x ∷ xs)

abbrev pub least : List ℕ → List ℕ → Option ℕ
least [] [] = None
least [] (y ∷ ys) = Some y
least (x ∷ xs) [] = Some x
least (x ∷ xs) (y ∷ ys) = Some (min x y)
