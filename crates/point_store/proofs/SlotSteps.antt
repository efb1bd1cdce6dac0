-- Values that stay at their places.
use Rattle.std.proofs.Common.{◌≡◌, ℕ, zero, suc, ◌<◌, ◌≤◌, ◌&&◌, Bool, true, false, nat_le, if◌then◌else◌, List, ◌∷◌, [], ◌++◌, length, take, Option, None, Some, is_some, set, slice_index_or, refl, sym, ap, ◌∙◌, arith, inl, inr, unwrap_or}
use Rattle.std.proofs.lemmas.Bool.{cases_lt, true≢false}
use Rattle.std.proofs.lemmas.List.{get_or-set_other, get_or-take, get_or_append_left, get_or_past, length-take-le}
use Rattle.range_table.specs.Values.{SameValues, with_span}
use Rattle.point_store.specs.Slots.{AreHeld, held_at, value_at}
use Rattle.point_store.specs.declared.slots.Slots.{Slots}

-- ---- one value more

none≢some : {V : Type 0} (o : Option V) → is_some o ≡ true → o ≡ None → ⊥
none≢some o some none = true≢false (sym some ∙ ap is_some none)

-- at a place where none was held
pub earlier_set : {V : Type 0} (first : V) (more : List (Option V)) (at : ℕ) (v : Option V) → slice_index_or more at None ≡ None → (p : ℕ) → is_some (slice_index_or (Some first ∷ more) p None) ≡ true
    → slice_index_or (Some first ∷ set more at v) p None ≡ slice_index_or (Some first ∷ more) p None
earlier_set first more at v free zero some = refl
earlier_set first more at v free (suc i) some = get_or-set_other more at i v None (λ e. none≢some (slice_index_or more i None) some (ap (λ k. slice_index_or more k None) e ∙ free))

-- behind the others
push_more : {V : Type 0} (more : List (Option V)) (v : Option V) (i : ℕ) → is_some (slice_index_or more i None) ≡ true → slice_index_or (more ++ v ∷ []) i None ≡ slice_index_or more i None
push_more more v i some = elim (cases_lt i (length more)) [
  | inl lt ↦ get_or_append_left more (v ∷ []) None i lt
  | inr ge ↦ absurd (none≢some (slice_index_or more i None) some (get_or_past more i None (omega arith)))
]

pub earlier_push : {V : Type 0} (first : V) (more : List (Option V)) (v : Option V) (p : ℕ) → is_some (slice_index_or (Some first ∷ more) p None) ≡ true
    → slice_index_or (Some first ∷ (more ++ v ∷ [])) p None ≡ slice_index_or (Some first ∷ more) p None
earlier_push first more v zero some = refl
earlier_push first more v (suc i) some = push_more more v i some

-- without the places behind the last value
pub same_cut : {V : Type 0} (more : List (Option V)) (n : ℕ) → n ≤ length more → ((i : ℕ) → n ≤ i → slice_index_or more i None ≡ None) → (i : ℕ) → slice_index_or (take n more) i None ≡ slice_index_or more i None
same_cut more n within none i = elim (cases_lt i n) [
  | inl lt ↦ get_or-take n more i None lt
  | inr ge ↦ get_or_past (take n more) i None (let is = length-take-le n more within in omega (arith, is, ge)) ∙ sym (none i ge)
]

-- ---- the values of the code points

pub some_of : {V : Type 0} (o : Option V) (d : V) → is_some o ≡ true → o ≡ Some (unwrap_or o d)
some_of None d e = cc
some_of (Some x) d e = refl

same_value : {V : Type 0} (o p : Option V) (d e : V) → is_some o ≡ true → p ≡ o → unwrap_or p e ≡ unwrap_or o d
same_value None p d e some is = cc
same_value (Some x) p d e some is = rw is refl

pub held_same : {V : Type 0} (s t : Slots V) (places : ℕ → ℕ) → AreHeld s places → ((c : ℕ) → c < 1114112 → held_at t (places c) ≡ held_at s (places c)) → AreHeld t places
held_same s t places held same = λ c lt. ap is_some (same c lt) ∙ held c lt

pub values_same : {V : Type 0} (s t : Slots V) (places : ℕ → ℕ) → AreHeld s places → ((c : ℕ) → c < 1114112 → held_at t (places c) ≡ held_at s (places c))
    → SameValues (λ c. value_at t (places c)) (λ c. value_at s (places c))
values_same s t places held same = λ c lt. same_value (held_at s (places c)) (held_at t (places c)) s.first t.first (held c lt) (same c lt)

-- a span at a place
span_at : {V : Type 0} (b : Bool) (s : Slots V) (p q : ℕ) → is_some (held_at s p) ≡ true → is_some (held_at s q) ≡ true → is_some (held_at s (if b then p else q)) ≡ true
span_at true s p q h k = h
span_at false s p q h k = k

pub held_span : {V : Type 0} (s : Slots V) (old new : ℕ → ℕ) (lo hi p : ℕ) → is_some (held_at s p) ≡ true → SameValues new (with_span old lo hi p) → AreHeld s old → AreHeld s new
held_span s old new lo hi p here is held = λ c lt. ap (λ q. is_some (held_at s q)) (is c lt) ∙ span_at (nat_le lo c && nat_le c hi) s p (old c) here (held c lt)
