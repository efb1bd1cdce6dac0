-- Spans of equal records, put one behind another.
use Rattle.std.proofs.Common.{◌≡◌, ℕ, ◌+◌, ◌<◌, ◌≤◌, List, [], ◌∷◌, ◌++◌, length, get_or, drop, refl, sym, ap, subst, ◌∙◌, add-one, arith}
use Rattle.std.proofs.Math.Seq.{drop-cons}
use Rattle.std.proofs.lemmas.List.{drop_all}
use Rattle.ucd_points.specs.Bounds.{Bounds}
use Rattle.ucd_model.specs.Cuts.{IsCut, IsEqualIn}
use Rattle.ucd_points.specs.Limits.{point_count}
use Rattle.ucd_model.specs.Records.{Record}

pub point_count-is : point_count ≡ 1114112
unfolding point_count
point_count-is = refl

pub cut_within : (R : ℕ → Record) (lo n : ℕ) (pieces : List Bounds) → IsCut R lo n pieces → lo ≤ n
cut_within R lo n [] h = omega arith
cut_within R lo n (s ∷ rest) h =
    let more = cut_within R (s.hi + 1) n rest h.3 in
    let begins = h.0 in
    let ordered = h.1 in
    omega arith

pub cut_push : (R : ℕ → Record) (lo mid : ℕ) (pieces : List Bounds) (s : Bounds) → IsCut R lo mid pieces → s.lo ≡ mid → s.lo ≤ s.hi → IsEqualIn R s → IsCut R lo (s.hi + 1) (pieces ++ s ∷ [])
cut_push R lo mid [] s h begins ordered equal = (begins ∙ sym h, ordered, equal, refl)
cut_push R lo mid (p ∷ rest) s h begins ordered equal = (h.0, h.1, h.2, cut_push R (p.hi + 1) mid rest s h.3 begins ordered equal)

-- the piece at place i, and those behind it
pub next_piece : (R : ℕ → Record) (lo n i : ℕ) (pieces : List Bounds) (s : Bounds) → i < length pieces → s ≡ get_or pieces i s → IsCut R lo n (drop i pieces) → IsCut R lo n (s ∷ drop (i + 1) pieces)
next_piece R lo n i pieces s lt here h =
    let rest : List Bounds = drop (i + 1) pieces in
    let split : drop i pieces ≡ s ∷ rest = drop-cons pieces i s lt ∙ ap (λ (k : ℕ). get_or pieces i s ∷ drop k pieces) (sym (add-one i)) ∙ ap (λ (b : Bounds). b ∷ rest) (sym here) in
    subst (IsCut R lo n) split h

-- behind the last piece nothing is left
pub cut_ended : (R : ℕ → Record) (lo n i : ℕ) (pieces : List Bounds) → length pieces ≤ i → IsCut R lo n (drop i pieces) → lo ≡ n
cut_ended R lo n i pieces le h = subst (IsCut R lo n) (drop_all i pieces le) h
