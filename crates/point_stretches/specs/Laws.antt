-- What is known of the stretches that an iterator gives.
-- stretches_cover   they follow one another without a gap, from where it stands up to the last code point, and each is told
-- holds_of_all      what holds throughout each of them holds of all code points
-- few_stretches     there are at most as many as code points
-- alike             what is the same from a code point up to the one that is told is the same throughout a stretch
-- counted_turn      if those of a stretch pass all or none, they are counted by its first
use Rattle.std.proofs.Common.{◌≡◌, ℕ, ◌+◌, ◌-◌, ◌<◌, ◌≤◌, Bool, cond, List, [], ◌∷◌, length, count_by, ap, subst, ◌∙◌, arith, inl, inr}
use Rattle.std.specs.Iterator.{Drains, Yields}
use Rattle.std.specs.List.{All, range_with_len}
use Rattle.std.proofs.lemmas.Bool.{cases_lt}
use Rattle.std.proofs.lemmas.List.Elements.{All-head, All-tail}
use Rattle.ucd_points.specs.PlainProofs.{count_alike}
use Rattle.ucd_points.specs.Bounds.{Bounds}
use Rattle.point_stretches.specs.declared.stretch_iter.StretchIter.{StretchIter}
use Rattle.point_stretches.specs.Stretches.{Follow, GivesStretch, IsNext, TellsAlike}

module _ {F : Type 0} (post : F → ℕ → ℕ → Type 0) where
  follows : (xs : List Bounds) (s t : StretchIter F) → Yields (GivesStretch post) s xs t → Follow (post s.last_of) s.from xs t.from
  follows [] s t y = ap (λ (i : StretchIter F). i.from) y
  follows (x ∷ xs) s t y =
      let next : IsNext post s x y.0 = y.1 in
      (next.begins, next.ordered, next.told, subst (λ (f : F). Follow (post f) (x.hi + 1) xs t.from) next.by_same (subst (λ (n : ℕ). Follow (post y.0.last_of) n xs t.from) next.goes_on (follows xs y.0 t y.2)))

  pub stretches_cover : (xs : List Bounds) (s : StretchIter F) → Drains (GivesStretch post) s xs → Follow (post s.last_of) s.from xs 1114112
  stretches_cover xs s d = subst (λ (n : ℕ). Follow (post s.last_of) s.from xs n) d.1.2.0 (follows xs s d.1.0 d.1.1)

abbrev Throughout : (ℕ → Type 0) → Bounds → Type 0
Throughout P x = (k : ℕ) → x.lo ≤ k → k ≤ x.hi → P k

pub holds_of_all : (post : ℕ → ℕ → Type 0) (P : ℕ → Type 0) (xs : List Bounds) (a b : ℕ) → Follow post a xs b → All (Throughout P) xs → (k : ℕ) → a ≤ k → k < b → P k
holds_of_all post P [] a b f each k low high = absurd (omega (arith, f))
holds_of_all post P (x ∷ xs) a b f each k low high = elim (cases_lt x.hi k) [
  | inl behind ↦ holds_of_all post P xs (x.hi + 1) b f.3 (All-tail (Throughout P) x xs each) k (omega arith) high
  | inr upto ↦ All-head (Throughout P) x xs each k (omega (arith, f.0)) upto
]

pub few_stretches : (post : ℕ → ℕ → Type 0) (xs : List Bounds) (a b : ℕ) → Follow post a xs b → a + length xs ≤ b
few_stretches post [] a b f = omega (arith, f)
few_stretches post (x ∷ xs) a b f = omega (arith, f.0, f.1, few_stretches post xs (x.hi + 1) b f.3)

-- ---- counts

module _ {F : Type 0} {post : F → ℕ → ℕ → Type 0} {last_of : F} {s t : StretchIter F} {x : Bounds} (by : s.last_of ≡ last_of) (next : IsNext post s x t) where
  pub alike : {V : Type 0} (f : ℕ → V) → TellsAlike (post last_of) f → (k : ℕ) → x.lo ≤ k → k ≤ x.hi → f k ≡ f x.lo
  alike f tells k low high =
      let told = next.told in
      let same = tells x.lo told.0 (omega (arith, told.2, next.inside)) (subst (λ (g : F). post g x.lo told.0) by told.1) in
      same.1 k low (omega (arith, told.2, same.0))

  pub counted_turn : (p : ℕ → Bool) (b : Bool) → TellsAlike (post last_of) p → p x.lo ≡ b → count_by p (range_with_len 0 t.from) ≡ count_by p (range_with_len 0 s.from) + cond b (x.hi - x.lo + 1) 0
  counted_turn p b tells is =
      let here = next.begins in
      let long : t.from ≡ s.from + (x.hi - x.lo + 1) = omega (arith, here, next.ordered, next.goes_on) in
      ap (λ n. count_by p (range_with_len 0 n)) long ∙ count_alike p b s.from (x.hi - x.lo + 1) (λ k low high. alike p tells k (omega (arith, here)) (omega (arith, here, next.ordered)) ∙ is)
