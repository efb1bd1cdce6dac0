-- What edges say.
-- inside_early        before the first edge nothing turns
-- Rises-from          edges that rise from a number on do so from a lesser one on
-- Turns x p a after b   the membership a is p before x, and from x on it is that of b, which is `after` before x
-- emit_has            one edge more, of two sets
-- merge_rises         the edges of two sets put together rise
-- merge_has           and are those of what f makes of their members
-- inside_not          what is not in, is in by the opposite start
-- equal_edges         sets with the same members have the same edges
use Rattle.std.proofs.Common.{◌≡◌, ℕ, ◌+◌, ◌<◌, ◌≤◌, Bool, true, false, not, cond, List, [], ◌∷◌, refl, sym, ap, ◌∙◌, arith, inl, inr, nat_lt}
use Rattle.std.proofs.lemmas.Bool.{cases_lt, lt-ltb, le-ltb}
use Rattle.unicodeset_eval.specs.Edges.{inside, Rises}
use Rattle.unicodeset_eval.specs.Merges.{emit, only, with_edge, merge}

pub inside_early : (b : Bool) (xs : List ℕ) (low c : ℕ) → Rises low xs → c < low → inside b xs c ≡ b
inside_early b [] low c rises lt = refl
inside_early b (x ∷ xs) low c rises lt = let le = rises.0 in rw (lt-ltb c x (omega arith)) refl

pub Rises-from : (xs : List ℕ) (low lower : ℕ) → Rises low xs → lower ≤ low → Rises lower xs
Rises-from [] low lower rises le = tt
Rises-from (x ∷ xs) low lower rises le = let first = rises.0 in (omega arith, rises.1)

-- ---- one edge

pub record Turns (x : ℕ) (p : Bool) (a : ℕ → Bool) (after : Bool) (b : ℕ → Bool) : Type 0 where
  pub before : (c : ℕ) → c < x → a c ≡ p
  pub behind : (c : ℕ) → x ≤ c → a c ≡ b c
  pub early : (c : ℕ) → c < x → b c ≡ after

turns_here : (x : ℕ) (p : Bool) (xs : List ℕ) → Rises (x + 1) xs → Turns x p (inside p (x ∷ xs)) (not p) (inside (not p) xs)
turns_here x p xs rises = record {
  before = λ c lt. rw (lt-ltb c x lt) refl;
  behind = λ c le. rw (le-ltb c x le) refl;
  early = λ c lt. inside_early (not p) xs (x + 1) c rises (omega arith);
}

stays : (x : ℕ) (q : Bool) (ys : List ℕ) (low : ℕ) → x ≤ low → Rises low ys → Turns x q (inside q ys) q (inside q ys)
stays x q ys low le rises = record {
  before = λ c lt. inside_early q ys low c rises (omega arith);
  behind = λ c le. refl;
  early = λ c lt. inside_early q ys low c rises (omega arith);
}

pub edge_law : (a b : Bool) (x : ℕ) (rest : List ℕ) (c : ℕ) → (c < x → inside b rest c ≡ b) → inside a (emit a b x rest) c ≡ cond (nat_lt c x) a (inside b rest c)
edge_law true false x rest c early = refl
edge_law false true x rest c early = refl
edge_law true true x rest c early = elim (cases_lt c x) [
  | inl lt ↦ rw (lt-ltb c x lt) (early lt)
  | inr ge ↦ rw (le-ltb c x ge) refl
]
edge_law false false x rest c early = elim (cases_lt c x) [
  | inl lt ↦ rw (lt-ltb c x lt) (early lt)
  | inr ge ↦ rw (le-ltb c x ge) refl
]

pub emit_has : (f : Bool → Bool → Bool) (x : ℕ) (p : Bool) (a : ℕ → Bool) (p2 : Bool) (a2 : ℕ → Bool) (q : Bool) (b : ℕ → Bool) (q2 : Bool) (b2 : ℕ → Bool) (rest : List ℕ) →
    Turns x p a p2 a2 → Turns x q b q2 b2 → ((c : ℕ) → inside (f p2 q2) rest c ≡ f (a2 c) (b2 c)) → (c : ℕ) → inside (f p q) (emit (f p q) (f p2 q2) x rest) c ≡ f (a c) (b c)
emit_has f x p a p2 a2 q b q2 b2 rest left right has c =
    edge_law (f p q) (f p2 q2) x rest c (λ lt. has c ∙ ap (λ d. f d (b2 c)) (left.early c lt) ∙ ap (f p2) (right.early c lt))
    ∙ elim (cases_lt c x) [
      | inl lt ↦ rw (lt-ltb c x lt, left.before c lt, right.before c lt) refl
      | inr ge ↦ rw (le-ltb c x ge, left.behind c ge, right.behind c ge) (has c)
    ]

pub emit_rises : (a b : Bool) (x low : ℕ) (rest : List ℕ) → low ≤ x → Rises (x + 1) rest → Rises low (emit a b x rest)
emit_rises true false x low rest le rises = (le, rises)
emit_rises false true x low rest le rises = (le, rises)
emit_rises true true x low rest le rises = Rises-from rest (x + 1) low rises (omega arith)
emit_rises false false x low rest le rises = Rises-from rest (x + 1) low rises (omega arith)

-- ---- two sets

-- the edges rise from `low` on, and are those of what f makes of a and b
pub record IsMerge (f : Bool → Bool → Bool) (p : Bool) (a : ℕ → Bool) (q : Bool) (b : ℕ → Bool) (low : ℕ) (edges : List ℕ) : Type 0 where
  pub rises : Rises low edges
  pub has : (c : ℕ) → inside (f p q) edges c ≡ f (a c) (b c)

IsMerge-emit : (f : Bool → Bool → Bool) (x : ℕ) (p : Bool) (a : ℕ → Bool) (p2 : Bool) (a2 : ℕ → Bool) (q : Bool) (b : ℕ → Bool) (q2 : Bool) (b2 : ℕ → Bool) (low : ℕ) (rest : List ℕ) →
    low ≤ x → Turns x p a p2 a2 → Turns x q b q2 b2 → IsMerge f p2 a2 q2 b2 (x + 1) rest → IsMerge f p a q b low (emit (f p q) (f p2 q2) x rest)
IsMerge-emit f x p a p2 a2 q b q2 b2 low rest le left right m = record {
  rises = emit_rises (f p q) (f p2 q2) x low rest le m.rises;
  has = emit_has f x p a p2 a2 q b q2 b2 rest left right m.has;
}

only_is : (f : Bool → Bool → Bool) (p q : Bool) (ys : List ℕ) (low : ℕ) → Rises low ys → IsMerge f p (inside p []) q (inside q ys) low (only f p q ys)
only_is f p q [] low rises = record { rises = tt; has = λ c. refl }
only_is f p q (y ∷ ys) low rises =
    IsMerge-emit f y p (inside p []) p (inside p []) q (inside q (y ∷ ys)) (not q) (inside (not q) ys) low (only f p (not q) ys) rises.0
    (stays y p [] y (omega arith) tt) (turns_here y q ys rises.1) (only_is f p (not q) ys (y + 1) rises.1)

abbrev IsNext : (Bool → Bool → Bool) → Bool → List ℕ → ℕ → (Bool → List ℕ → List ℕ) → Type 0
IsNext f p xs x next = (q : Bool) (ys : List ℕ) → Rises (x + 1) ys → IsMerge f (not p) (inside (not p) xs) q (inside q ys) (x + 1) (next q ys)

with_edge_is : (f : Bool → Bool → Bool) (p : Bool) (x : ℕ) (xs : List ℕ) (next : Bool → List ℕ → List ℕ) → Rises (x + 1) xs → IsNext f p xs x next →
    (q : Bool) (ys : List ℕ) (low : ℕ) → low ≤ x → Rises low ys → IsMerge f p (inside p (x ∷ xs)) q (inside q ys) low (with_edge f p x next q ys)
with_edge_is f p x xs next rises is_next q [] low le other =
    IsMerge-emit f x p (inside p (x ∷ xs)) (not p) (inside (not p) xs) q (inside q []) q (inside q []) low (next q []) le
    (turns_here x p xs rises) (stays x q [] x (omega arith) tt) (is_next q [] tt)
with_edge_is f p x xs next rises is_next q (y ∷ ys) low le other = elim (cases_lt x y) [
  | inl lt ↦
      let above : Rises (x + 1) (y ∷ ys) = (omega arith, other.1) in
      rw (lt-ltb x y lt) (IsMerge-emit f x p (inside p (x ∷ xs)) (not p) (inside (not p) xs) q (inside q (y ∷ ys)) q (inside q (y ∷ ys)) low (next q (y ∷ ys)) le
      (turns_here x p xs rises) (stays x q (y ∷ ys) (x + 1) (omega arith) above) (is_next q (y ∷ ys) above))
  | inr ge ↦ elim (cases_lt y x) [
    | inl lt ↦
        let above : Rises (y + 1) (x ∷ xs) = (omega arith, rises) in
        rw (le-ltb x y ge, lt-ltb y x lt) (IsMerge-emit f y p (inside p (x ∷ xs)) p (inside p (x ∷ xs)) q (inside q (y ∷ ys)) (not q) (inside (not q) ys) low (with_edge f p x next (not q) ys) other.0
        (stays y p (x ∷ xs) (y + 1) (omega arith) above) (turns_here y q ys other.1) (with_edge_is f p x xs next rises is_next (not q) ys (y + 1) (omega arith) other.1))
    | inr le2 ↦
        let same : y ≡ x = omega arith in
        let after : Rises (x + 1) ys = rw same at other.1 in
        rw (le-ltb x y ge, le-ltb y x le2) (IsMerge-emit f x p (inside p (x ∷ xs)) (not p) (inside (not p) xs) q (inside q (y ∷ ys)) (not q) (inside (not q) ys) low (next (not q) ys) le
        (turns_here x p xs rises) (rw same (turns_here x q ys after)) (is_next (not q) ys after))
  ]
]

merge_is : (f : Bool → Bool → Bool) (p : Bool) (xs : List ℕ) (q : Bool) (ys : List ℕ) (low : ℕ) → Rises low xs → Rises low ys → IsMerge f p (inside p xs) q (inside q ys) low (merge f p xs q ys)
merge_is f p [] q ys low first second = only_is f p q ys low second
merge_is f p (x ∷ xs) q ys low first second =
    with_edge_is f p x xs (merge f (not p) xs) first.1 (λ q2 ys2 rises. merge_is f (not p) xs q2 ys2 (x + 1) first.1 rises) q ys low first.0 second

pub merge_rises : (f : Bool → Bool → Bool) (p : Bool) (xs : List ℕ) (q : Bool) (ys : List ℕ) (low : ℕ) → Rises low xs → Rises low ys → Rises low (merge f p xs q ys)
merge_rises f p xs q ys low first second = (merge_is f p xs q ys low first second).rises

pub merge_has : (f : Bool → Bool → Bool) (p : Bool) (xs : List ℕ) (q : Bool) (ys : List ℕ) (low : ℕ) → Rises low xs → Rises low ys → (c : ℕ) → inside (f p q) (merge f p xs q ys) c ≡ f (inside p xs c) (inside q ys c)
merge_has f p xs q ys low first second = (merge_is f p xs q ys low first second).has

-- ---- the opposite

pub inside_not : (b : Bool) (xs : List ℕ) (c : ℕ) → inside (not b) xs c ≡ not (inside b xs c)
inside_not b [] c = refl
inside_not b (x ∷ xs) c = elim (cases_lt c x) [
  | inl lt ↦ rw (lt-ltb c x lt) refl
  | inr ge ↦ rw (le-ltb c x ge) (inside_not (not b) xs c)
]

-- ---- equal members

differs : (b : Bool) → b ≡ not b → Rises 1 (0 ∷ [])
differs true e = absurd cc
differs false e = absurd cc

pub equal_edges : (b : Bool) (xs ys : List ℕ) (low : ℕ) → Rises low xs → Rises low ys → ((c : ℕ) → inside b xs c ≡ inside b ys c) → xs ≡ ys
equal_edges b [] [] low first second h = refl
equal_edges b [] (y ∷ ys) low first second h = absurd (
    let t = turns_here y b ys second.1 in
    let now : inside b (y ∷ ys) y ≡ inside (not b) ys y = t.behind y (omega arith) in
    let later : inside (not b) ys y ≡ not b = inside_early (not b) ys (y + 1) y second.1 (omega arith) in
    let bad = (differs b (h y ∙ now ∙ later)).0 in omega (arith, bad))
equal_edges b (x ∷ xs) [] low first second h = absurd (
    let t = turns_here x b xs first.1 in
    let now : inside b (x ∷ xs) x ≡ inside (not b) xs x = t.behind x (omega arith) in
    let later : inside (not b) xs x ≡ not b = inside_early (not b) xs (x + 1) x first.1 (omega arith) in
    let bad = (differs b (sym (h x) ∙ now ∙ later)).0 in omega (arith, bad))
equal_edges b (x ∷ xs) (y ∷ ys) low first second h =
    let left = turns_here x b xs first.1 in
    let right = turns_here y b ys second.1 in
    elim (cases_lt x y) [
      | inl lt ↦ absurd (
          let later : inside (not b) xs x ≡ not b = inside_early (not b) xs (x + 1) x first.1 (omega arith) in
          let bad = (differs b (sym (right.before x lt) ∙ sym (h x) ∙ left.behind x (omega arith) ∙ later)).0 in omega (arith, bad))
      | inr ge ↦ elim (cases_lt y x) [
        | inl lt ↦ absurd (
            let later : inside (not b) ys y ≡ not b = inside_early (not b) ys (y + 1) y second.1 (omega arith) in
            let bad = (differs b (sym (left.before y lt) ∙ h y ∙ right.behind y (omega arith) ∙ later)).0 in omega (arith, bad))
        | inr le ↦
            let same : y ≡ x = omega arith in
            let rest : xs ≡ ys = equal_edges (not b) xs ys (x + 1) first.1 (rw same at second.1) (λ c. elim (cases_lt c x) [
              | inl lt ↦ left.early c lt ∙ sym (right.early c (omega arith))
              | inr ge2 ↦ sym (left.behind c ge2) ∙ h c ∙ right.behind c (omega arith)
            ]) in
            rw (same, rest) refl
      ]
    ]
