-- One more span behind others, edge by edge.
-- IsOpen b xs          behind these edges numbers are in, where b says it of those before them
-- IsRising b xs e p    these edges rise, with one more that closes the last span, and are those of p
-- next_rises           and with one more span, as a loop takes it
-- so_far               what the first span has, and so many of the others
use Rattle.std.proofs.Common.{◌≡◌, ℕ, ◌+◌, ◌<◌, ◌≤◌, Bool, true, false, not, ◌||◌, List, [], ◌∷◌, ◌++◌, length, take, get_or, refl, sym, ap, ◌∙◌, arith, inl, inr}
use Rattle.std.specs.List.{list_any}
use Rattle.std.proofs.lemmas.Bool.{cases_lt, lt-ltb, le-ltb}
use Rattle.std.proofs.lemmas.Bool.Decides.{nat_tests}
use Rattle.std.proofs.lemmas.List.Folds.{list_any_more}
use Rattle.ucd_points.specs.Bounds.{Bounds}
use Rattle.ucd_facts.specs.Facts.{within}
use Rattle.unicodeset_eval.specs.Edges.{inside, Rises}
use Rattle.unicodeset_eval.specs.RisingSpans.{gap}

abbrev pub IsOpen : Bool → List ℕ → Type 0
IsOpen b [] = b ≡ true
IsOpen b (x ∷ xs) = IsOpen (not b) xs

pub record IsRising (has_zero : Bool) (edges : List ℕ) (low end : ℕ) (p : ℕ → Bool) : Type 0 where
  pub opens : IsOpen has_zero edges
  pub rises : Rises low (edges ++ end ∷ [])
  pub has : (c : ℕ) → inside has_zero (edges ++ end ∷ []) c ≡ p c

-- ---- one more

above : (xs : List ℕ) (low end : ℕ) → Rises low (xs ++ end ∷ []) → low ≤ end
above [] low end rises = rises.0
above (x ∷ xs) low end rises = let first = rises.0 in let rest = above xs (x + 1) end rises.1 in omega arith

-- with the edges g between
record Step (b : Bool) (xs g : List ℕ) (low end : ℕ) (span : Bounds) : Type 0 where
  opens : IsOpen b (xs ++ g)
  rises : Rises low ((xs ++ g) ++ (span.hi + 1) ∷ [])
  has : (c : ℕ) → inside b ((xs ++ g) ++ (span.hi + 1) ∷ []) c ≡ (inside b (xs ++ end ∷ []) c || within c span)

last_step : (low end : ℕ) (span : Bounds) → low ≤ end → end ≤ span.lo → span.lo ≤ span.hi → Step true [] (gap end span.lo) low end span
last_step low end span from behind le = elim (cases_lt end span.lo) [
  | inl lt ↦ rw (lt-ltb end span.lo lt) (record { opens = refl; rises = (from, (omega arith, (omega arith, tt))); has = λ c. grind (arith, nat_tests) })
  | inr ge ↦
      let same : end ≡ span.lo = omega arith in
      rw (le-ltb end span.lo ge) (record { opens = refl; rises = (omega arith, tt); has = λ c. grind (arith, nat_tests) })
]

early_none : (c x : ℕ) (span : Bounds) → c < x → x ≤ span.lo → within c span ≡ false
early_none c x span lt le = grind (arith, nat_tests)

or_none : (a b : Bool) → b ≡ false → a ≡ (a || b)
or_none true b h = refl
or_none false b h = sym h

step : (b : Bool) (xs : List ℕ) (low end : ℕ) (span : Bounds) → IsOpen b xs → Rises low (xs ++ end ∷ []) → end ≤ span.lo → span.lo ≤ span.hi → Step b xs (gap end span.lo) low end span
step true [] low end span opened rises behind le = last_step low end span rises.0 behind le
step false [] low end span opened rises behind le = absurd cc
step b (x ∷ xs) low end span opened rises behind le =
    let rest = step (not b) xs (x + 1) end span opened rises.1 behind le in
    let before = above xs (x + 1) end rises.1 in
    record {
      opens = rest.opens;
      rises = (rises.0, rest.rises);
      has = λ c. elim (cases_lt c x) [
        | inl lt ↦ rw (lt-ltb c x lt) (or_none b (within c span) (early_none c x span lt (omega arith)))
        | inr ge ↦ rw (le-ltb c x ge) (rest.has c)
      ];
    }

one_more : (has_zero : Bool) (edges : List ℕ) (end : ℕ) (p q : ℕ → Bool) (span : Bounds) → IsRising has_zero edges 1 end p → end ≤ span.lo → span.lo ≤ span.hi
    → ((c : ℕ) → q c ≡ (p c || within c span)) → IsRising has_zero (edges ++ gap end span.lo) 1 (span.hi + 1) q
one_more has_zero edges end p q span rising behind le more =
    let s = step has_zero edges 1 end span rising.opens rising.rises behind le in
    record {
      opens = s.opens;
      rises = s.rises;
      has = λ c. s.has c ∙ ap (λ (b : Bool). b || within c span) (rising.has c) ∙ sym (more c);
    }

-- ---- as a loop takes it

or_assoc : (a b c : Bool) → (a || (b || c)) ≡ ((a || b) || c)
or_assoc true b c = refl
or_assoc false b c = refl

abbrev pub so_far : Bounds → List Bounds → ℕ → ℕ → Bool
so_far first others i c = within c first || list_any (within c) (take i others)

more_has : (first s : Bounds) (others : List Bounds) (i c : ℕ) → i < length others → s ≡ get_or others i s → so_far first others (i + 1) c ≡ (so_far first others i c || within c s)
more_has first s others i c lt here =
    ap (λ (b : Bool). within c first || b) (list_any_more (within c) others i s lt ∙ ap (λ (x : Bounds). list_any (within c) (take i others) || within c x) (sym here))
    ∙ or_assoc (within c first) (list_any (within c) (take i others)) (within c s)

pub next_rises : (has_zero : Bool) (edges new : List ℕ) (end lo hi i : ℕ) (first s : Bounds) (others : List Bounds) → IsRising has_zero edges 1 end (so_far first others i)
    → new ≡ edges ++ gap end lo → lo ≡ s.lo → hi ≡ s.hi → i < length others → s ≡ get_or others i s → s.lo ≤ s.hi → end ≤ s.lo → IsRising has_zero new 1 (hi + 1) (so_far first others (i + 1))
next_rises has_zero edges new end lo hi i first s others rising grown from to lt here le behind =
    rw (grown, from, to) (one_more has_zero edges end (so_far first others i) (so_far first others (i + 1)) s rising behind le (λ c. more_has first s others i c lt here))
