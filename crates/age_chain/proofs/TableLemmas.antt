-- The table of ages, stretch by stretch.
use Rattle.std.proofs.Common.{◌≡◌, ℕ, zero, suc, ◌+◌, ◌<◌, ◌≤◌, Bool, true, false, ◌&&◌, ◌==◌, nat_lt, Option, Some, None, refl, sym, ap, subst, ◌∙◌, arith, inl, inr, if◌then◌else◌, nat_le}
use Rattle.std.proofs.lemmas.Bool.{cases_lt, eq-eqb, le-leb, le-ltb, lt-leb, lt-ltb, ne_eqb}
use mathlib.Core.Path.{fun_ext}
use Rattle.range_table.specs.Values.{SameValues, with_span, point_count-is}
use Rattle.release_rows.specs.Releases.{ReleaseItems}
use Rattle.ucd_points.specs.Limits.{point_count}
use Rattle.age_chain.specs.Ages.{age_of, ages_of, is_assigned}
use Rattle.age_chain.specs.Giving.{aged, aged_before}
use Rattle.age_chain.proofs.AgeLemmas.{age_after}

-- ---- what a table stands for

pub ages_within : (values : ℕ → ℕ) (c : ℕ) → c < 1114112 → ages_of values c ≡ age_of (values c)
ages_within values c lt = ap (λ (b : Bool). if b then age_of (values c) else None) (lt-ltb c point_count (subst (λ (n : ℕ). c < n) (sym point_count-is) lt))

pub ages_past : (values : ℕ → ℕ) (c : ℕ) → 1114112 ≤ c → ages_of values c ≡ None
ages_past values c le = ap (λ (b : Bool). if b then age_of (values c) else None) (le-ltb c point_count (subst (λ (n : ℕ). n ≤ c) (sym point_count-is) le))

pub same_ages : (f g : ℕ → ℕ) → SameValues f g → ages_of f ≡ ages_of g
same_ages f g same = fun_ext (λ c. elim (cases_lt c 1114112) [
  | inl lt ↦ ages_within f c lt ∙ ap age_of (same c lt) ∙ sym (ages_within g c lt)
  | inr le ↦ ages_past f c le ∙ sym (ages_past g c le)
])

age_some : (n : ℕ) → age_of (suc n) ≡ Some (suc n)
age_some n = ap (λ (t : Bool). if t then None else Some (suc n)) (ne_eqb (suc n) 0 (λ e. omega (arith, e)))

pub aged_is : (v n : ℕ) (b : Bool) → age_of (if b && (v == 0) then suc n else v) ≡ age_after (age_of v) (suc n) b
aged_is zero n true = age_some n
aged_is zero n false = refl
aged_is (suc v) n true = ap (λ (t : Bool). age_of (if t then suc n else suc v)) (ne_eqb (suc v) 0 (λ e. omega (arith, e))) ∙ age_some v ∙ sym (ap (λ (a : Option ℕ). age_after a (suc n) true) (age_some v))
aged_is (suc v) n false = age_some v ∙ sym (ap (λ (a : Option ℕ). age_after a (suc n) false) (age_some v))

-- ---- what is given stretch by stretch

before_end : (release : ReleaseItems) (n end : ℕ) (values : ℕ → ℕ) (c : ℕ) → c < end → aged_before release n end values c ≡ aged release n values c
before_end release n end values c lt = ap (λ (b : Bool). if b then aged release n values c else values c) (lt-ltb c end lt)

from_end : (release : ReleaseItems) (n end : ℕ) (values : ℕ → ℕ) (c : ℕ) → end ≤ c → aged_before release n end values c ≡ values c
from_end release n end values c le = ap (λ (b : Bool). if b then aged release n values c else values c) (le-ltb c end le)

-- where nothing is given yet, and where all is
pub none_given : (release : ReleaseItems) (n : ℕ) (now next : ℕ → ℕ) → SameValues next now → SameValues next (aged_before release n 0 now)
none_given release n now next same c lt = same c lt ∙ sym (from_end release n 0 now c (omega arith))

pub all_given : (release : ReleaseItems) (n end : ℕ) (now next : ℕ → ℕ) → 1114112 ≤ end → SameValues next (aged_before release n end now) → SameValues next (aged release n now)
all_given release n end now next le given c lt = given c lt ∙ before_end release n end now c (omega arith)

pub given_over : (release : ReleaseItems) (n end : ℕ) (f g next : ℕ → ℕ) → SameValues f g → SameValues next (aged_before release n end f) → SameValues next (aged_before release n end g)
given_over release n end f g next same given c lt =
    given c lt ∙ ap (λ (v : ℕ). if nat_lt c end then (if is_assigned release c && (v == 0) then n else v) else v) (same c lt)

-- ---- what one code point is given

pub not_assigned : (release : ReleaseItems) (n : ℕ) (values : ℕ → ℕ) (c : ℕ) → is_assigned release c ≡ false → aged release n values c ≡ values c
not_assigned release n values c e = ap (λ (b : Bool). if b && (values c == 0) then n else values c) e

pub is_given : (release : ReleaseItems) (n : ℕ) (values : ℕ → ℕ) (c : ℕ) → is_assigned release c ≡ true → values c ≡ 0 → aged release n values c ≡ n
is_given release n values c e none = ap (λ (b : Bool). if b && (values c == 0) then n else values c) e ∙ ap (λ (b : Bool). if b then n else values c) (eq-eqb (values c) 0 none)

-- ---- a stretch

in_span : (f : ℕ → ℕ) (lo hi v d : ℕ) → lo ≤ d → d ≤ hi → with_span f lo hi v d ≡ v
in_span f lo hi v d from to = ap (λ (b : Bool). if b && nat_le d hi then v else f d) (le-leb lo d from) ∙ ap (λ (b : Bool). if b then v else f d) (le-leb d hi to)

below_span : (f : ℕ → ℕ) (lo hi v d : ℕ) → d < lo → with_span f lo hi v d ≡ f d
below_span f lo hi v d lt = ap (λ (b : Bool). if b && nat_le d hi then v else f d) (lt-leb lo d lt)

past_span : (f : ℕ → ℕ) (lo hi v d : ℕ) → lo ≤ d → hi < d → with_span f lo hi v d ≡ f d
past_span f lo hi v d from past = ap (λ (b : Bool). if b && nat_le d hi then v else f d) (le-leb lo d from) ∙ ap (λ (b : Bool). if b then v else f d) (lt-leb d hi past)

pub stretch_given : (release : ReleaseItems) (n : ℕ) (now next new : ℕ → ℕ) (c last : ℕ) → c ≤ last → ((d : ℕ) → c ≤ d → d ≤ last → aged release n now d ≡ n)
    → SameValues next (aged_before release n c now) → SameValues new (with_span next c last n) → SameValues new (aged_before release n (last + 1) now)
stretch_given release n now next new c last ordered is given put d lt = put d lt ∙ elim (cases_lt d c) [
  | inl less ↦ below_span next c last n d less ∙ given d lt ∙ before_end release n c now d less ∙ sym (before_end release n (last + 1) now d (omega arith))
  | inr from ↦ elim (cases_lt last d) [
    | inl past ↦ past_span next c last n d from past ∙ given d lt ∙ from_end release n c now d from ∙ sym (from_end release n (last + 1) now d (omega arith))
    | inr to ↦ in_span next c last n d from to ∙ sym (before_end release n (last + 1) now d (omega arith) ∙ is d from to)
  ]
]

pub stretch_left : (release : ReleaseItems) (n : ℕ) (now next : ℕ → ℕ) (c last : ℕ) → c ≤ last → ((d : ℕ) → c ≤ d → d ≤ last → aged release n now d ≡ now d)
    → SameValues next (aged_before release n c now) → SameValues next (aged_before release n (last + 1) now)
stretch_left release n now next c last ordered is given d lt = given d lt ∙ elim (cases_lt d c) [
  | inl less ↦ before_end release n c now d less ∙ sym (before_end release n (last + 1) now d (omega arith))
  | inr from ↦ from_end release n c now d from ∙ elim (cases_lt last d) [
    | inl past ↦ sym (from_end release n (last + 1) now d (omega arith))
    | inr to ↦ sym (before_end release n (last + 1) now d (omega arith) ∙ is d from to)
  ]
]
