-- Spans that are put together one by one.
use Rattle.std.proofs.Common.{◌≡◌, ℕ, ◌+◌, ◌<◌, ◌≤◌, max, Bool, true, false, ◌||◌, ◌&&◌, List, [], ◌∷◌, ◌++◌, Some, nat_le, refl, sym, ap, subst, ◌∙◌, arith}
use Rattle.std.proofs.lemmas.Bool.Decides.{nat_tests}
use Rattle.std.specs.List.{All, list_any}
use Rattle.std.proofs.lemmas.List.Elements.{All-nil, All-push, All-weaker}
use Rattle.std.proofs.lemmas.List.Folds.{list_any-append}
use Rattle.std.proofs.lemmas.List.Quantifiers.{all_pairs_push}
use Rattle.ucd_points.specs.Bounds.{Bounds}
use Rattle.ucd_facts.specs.Facts.{within}
use Rattle.fact_tables.specs.JoinedSpans.{AreApart, EndsBefore, HoldsBack}

pub or_assoc : (a b c : Bool) → ((a || b) || c) ≡ (a || (b || c))
or_assoc true b c = refl
or_assoc false b c = refl

pub or_nothing : (a : Bool) → (a || false) ≡ a
or_nothing true = refl
or_nothing false = refl

-- the code points of a list with one more span
pub within_put : (c : ℕ) (all : List Bounds) (span : Bounds) → list_any (within c) (all ++ span ∷ []) ≡ (list_any (within c) all || within c span)
within_put c all span = list_any-append (within c) all (span ∷ []) ∙ ap (λ b. list_any (within c) all || b) (or_nothing (within c span))

-- two spans of which the second begins in the first or right behind it
pub within_both : (c lo hi from to : ℕ) → lo ≤ from → from ≤ hi + 1 → (nat_le lo c && nat_le c (max hi to)) ≡ ((nat_le lo c && nat_le c hi) || (nat_le from c && nat_le c to))
within_both c lo hi from to low near = grind (arith, nat_tests)

-- ---- spans that are apart

no_pairs : AreApart []
no_pairs = λ i j d before inside. absurd (omega (arith, inside))

-- the first span is held back
pub first_held : (all : List Bounds) (span : Bounds) → all ≡ [] → HoldsBack all (Some span)
first_held all span none = subst (λ (spans : List Bounds). HoldsBack spans (Some span)) (sym none) (no_pairs, All-nil (EndsBefore span.lo))

-- a span is held back in the place of one that begins where it does
pub joined_held : (all : List Bounds) (last whole : Bounds) → whole.lo ≡ last.lo → HoldsBack all (Some last) → HoldsBack all (Some whole)
joined_held all last whole begins held = (held.0, subst (λ n. All (EndsBefore n) all) (sym begins) held.1)

-- the span that was held back is put
pub put_apart : (all : List Bounds) (last : Bounds) → HoldsBack all (Some last) → AreApart (all ++ last ∷ [])
put_apart all last held = all_pairs_push (λ span next. EndsBefore next.lo span) all last held.0 held.1

-- and another one is held back
pub next_held : (all : List Bounds) (last span : Bounds) → last.lo ≤ span.lo → last.hi + 1 < span.lo → HoldsBack all (Some last) → HoldsBack (all ++ last ∷ []) (Some span)
next_held all last span begins ends held = (put_apart all last held, All-push (EndsBefore span.lo) all last (All-weaker (EndsBefore last.lo) (EndsBefore span.lo) (λ x less. omega (arith, less, begins)) all held.1) ends)

-- all are put
pub all_apart : (all : List Bounds) → all ≡ [] → AreApart all
all_apart all none = subst AreApart (sym none) no_pairs
