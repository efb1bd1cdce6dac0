-- The entry before another one.
use Rattle.std.proofs.Common.{◌≡◌, ℕ, ◌+◌, ◌-◌, ◌<◌, ◌≤◌, List, length, take, get_or, Some, ap, ◌∙◌, arith}
use Rattle.std.proofs.lemmas.List.{length-append, length-map}
use Rattle.part_list.specs.declared.spot.Spot.{Spot}
use Rattle.part_list.specs.Parts.{flat, part_at, before}
use Rattle.part_list.specs.PartValues.{PartValue, parts_next}
use Rattle.part_list.specs.Finds.{IsBefore}
use Rattle.part_list.proofs.FlatLemmas.{flat-take_more, part_next}

before_more : {A : Type 0} (xs : List (List A)) (k : ℕ) → k < length xs → before xs (k + 1) ≡ before xs k + length (part_at xs k)
before_more xs k h = ap length (flat-take_more xs k h) ∙ length-append (flat (take k xs)) (part_at xs k)

-- how many entries stand before a part, by those before the part in front of it
pub before_left : {A : Type 0} (ps : List (PartValue A)) (left : ℕ) (part : PartValue A) → 0 < left → left < length ps → part ≡ get_or ps (left - 1) part → before (parts_next ps) left ≡ before (parts_next ps) (left - 1) + length part.next
before_left ps left part some within is =
    let long = length-map ps (λ (p : PartValue _). p.next) in
    let next : left ≡ left - 1 + 1 = omega arith in
    ap (before (parts_next ps)) next
    ∙ before_more (parts_next ps) (left - 1) (omega arith)
    ∙ ap (λ xs. before (parts_next ps) (left - 1) + length xs) (part_next ps (left - 1) part (omega arith) is)

pub before_found : {A : Type 0} (ps : List (PartValue A)) (spot : Spot) (left : ℕ) (part : PartValue A) (xs : List A) → xs ≡ part.next → 0 < left → left < length ps → part ≡ get_or ps (left - 1) part → 0 < length xs → spot.at ≤ 0 → before (parts_next ps) left ≡ before (parts_next ps) spot.slot → IsBefore (Some (record { slot = left - 1; at = length xs - 1 })) spot (parts_next ps)
before_found ps spot left part xs same some within is long first stands =
    let count = length-map ps (λ (p : PartValue _). p.next) in
    let here = ap length (part_next ps (left - 1) part (omega arith) is) in
    let size = ap length same in
    let step = before_left ps left part some within is in
    (record { part = omega arith; within = omega arith }, omega arith)

-- the place, behind one more part
pub place_behind : {A : Type 0} (ps : List (PartValue A)) (slot at place : ℕ) (part : PartValue A) (xs : List A) → xs ≡ part.next → slot < length ps → part ≡ get_or ps slot part → length xs ≤ at → before (parts_next ps) slot + at ≡ place → before (parts_next ps) (slot + 1) + (at - length xs) ≡ place
place_behind ps slot at place part xs same within is past stands =
    let long = length-map ps (λ (p : PartValue _). p.next) in
    let step = before_more (parts_next ps) slot (omega arith) in
    let here = ap length (part_next ps slot part within is) in
    let size = ap length same in
    omega arith
