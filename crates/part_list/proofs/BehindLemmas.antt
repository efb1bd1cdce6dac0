-- A search behind the first entries, none of which passes.
use Rattle.std.proofs.Common.{◌≡◌, ℕ, ◌+◌, ◌<◌, ◌≤◌, Bool, false, List, [], ◌∷◌, ◌++◌, length, take, drop, get_or, Some, None, not, sym, ap, subst, ◌∙◌, arith}
use Rattle.std.specs.List.{All, position_or_len}
use Rattle.std.proofs.Math.Seq.{take-append-add}
use Rattle.std.proofs.lemmas.List.{length-drop, length-map, length-take-le, take-append-drop, take-append-le}
use Rattle.std.proofs.lemmas.List.Elements.{All-cons, All-head, All-tail}
use Rattle.part_list.specs.Parts.{flat, part_at, before}
use Rattle.part_list.specs.Finds.{FirstIn}
use Rattle.part_list.specs.PartValues.{PartValue, parts_next}
use Rattle.part_list.specs.SpotLaws.{around}
use Rattle.part_list.proofs.FindLemmas.{prefix_len-all}
use Rattle.part_list.proofs.FlatLemmas.{part_next}
use Rattle.part_list.proofs.ReachLemmas.{none_first}

all_left : {A : Type 0} (P : A → Type 0) (xs ys : List A) → All P (xs ++ ys) → All P xs
all_left P [] ys h = λ k d lt. absurd (omega arith)
all_left P (x ∷ xs) ys h = All-cons P x xs (All-head P x (xs ++ ys) h) (all_left P xs ys (All-tail P x (xs ++ ys) h))

all_right : {A : Type 0} (P : A → Type 0) (xs ys : List A) → All P (xs ++ ys) → All P ys
all_right P [] ys h = h
all_right P (x ∷ xs) ys h = all_right P xs ys (All-tail P x (xs ++ ys) h)

-- the first entries are those of the parts before one, and some of that one
take_flat : {A : Type 0} (xs : List (List A)) (k at : ℕ) → k < length xs → at ≤ length (part_at xs k) → take (before xs k + at) (flat xs) ≡ flat (take k xs) ++ take at (part_at xs k)
take_flat xs k at h within =
    rw (around xs k h)
    (take-append-add (flat (take k xs)) (part_at xs k ++ flat (drop (k + 1) xs)) at
    ∙ ap (λ front. flat (take k xs) ++ front) (take-append-le at (part_at xs k) (flat (drop (k + 1) xs)) within))

-- the first that passes behind some that do not
first_behind : {A : Type 0} (p : A → Bool) (xs : List A) (at : ℕ) → at ≤ length xs → All (λ x. p x ≡ false) (take at xs) → position_or_len p xs ≡ at + position_or_len p (drop at xs)
first_behind p xs at h none =
    let long = length-take-le at xs h in
    ap (position_or_len p) (sym (take-append-drop at xs))
    ∙ prefix_len-all (λ x. not (p x)) (take at xs) (drop at xs) (none_first p (take at xs) none)
    ∙ ap (λ n. n + position_or_len p (drop at xs)) long

module _ {A : Type 0} (p : A → Bool) (ps : List (PartValue A)) (k at count : ℕ) (part : PartValue A) (slot : k < length ps) (is : part ≡ get_or ps k part) (within : at < length (part_at (parts_next ps) k)) (stands : before (parts_next ps) k + at ≡ count) (none : All (λ x. p x ≡ false) (take count (flat (parts_next ps)))) where
  inner : k < length (parts_next ps)
  inner = let long = length-map ps (λ (part : PartValue A). part.next) in omega arith

  split : take count (flat (parts_next ps)) ≡ flat (take k (parts_next ps)) ++ take at (part_at (parts_next ps) k)
  split = ap (λ n. take n (flat (parts_next ps))) (sym stands) ∙ take_flat (parts_next ps) k at inner (omega arith)

  both : All (λ x. p x ≡ false) (flat (take k (parts_next ps)) ++ take at (part_at (parts_next ps) k))
  both = subst (All (λ x. p x ≡ false)) split none

  -- none of the parts before passes
  pub before_none : position_or_len p (flat (take k (parts_next ps))) ≡ length (flat (take k (parts_next ps)))
  before_none = none_first p (flat (take k (parts_next ps))) (all_left (λ x. p x ≡ false) (flat (take k (parts_next ps))) (take at (part_at (parts_next ps) k)) both)

  here : position_or_len p part.next ≡ at + position_or_len p (drop at part.next)
  here =
      let same = part_next ps k part slot is in
      let size = ap length same in
      first_behind p part.next at (omega arith) (subst (λ xs. All (λ x. p x ≡ false) (take at xs)) same (all_right (λ x. p x ≡ false) (flat (take k (parts_next ps))) (take at (part_at (parts_next ps) k)) both))

  pub found_behind : (n : ℕ) → FirstIn (Some n) p (drop at part.next) → FirstIn (Some (at + n)) p part.next
  found_behind n h =
      let long = length-drop at part.next in
      let lt = h.0 in
      (omega arith, here ∙ ap (λ m. at + m) h.1)

  pub none_behind : FirstIn None p (drop at part.next) → FirstIn None p part.next
  none_behind h =
      let size = ap length (part_next ps k part slot is) in
      let long = length-drop at part.next in
      here ∙ ap (λ m. at + m) h ∙ omega arith
