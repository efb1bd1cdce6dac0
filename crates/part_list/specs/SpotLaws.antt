-- What is known of the spots that searches answer.
-- around          a list is cut round a part
-- place-lt        the place of an entry lies in the list
-- first_passes    the first entry that passes does pass
-- first_some      if there is a first one, some entry passes
-- first_none      if there is none, no entry passes
-- last_passes     the last entry that passes does pass
use Rattle.std.specs.List.{list_any, suffix_len}
use Rattle.std.proofs.Common.{[], ◌++◌, ◌-◌, reverse, not, sym, ap, subst, ◌∙◌, arith, ◌≡◌, ℕ, ◌+◌, ◌<◌, Bool, true, false, List, length, take, drop, slice_index_or, Some, None}
use Rattle.std.proofs.lemmas.List.{length-append, take-append-drop, drop_more, get_or_default, length-reverse, get_or-reverse}
use Rattle.std.proofs.lemmas.List.Concat.{flat_map-append}
use Rattle.std.proofs.lemmas.List.Folds.{list_any-from_Any, list_any_none}
use Rattle.std.proofs.lemmas.List.Sums.{passes_at_first, fails_before_first, prefix_len_stops}
use Rattle.std.proofs.lemmas.Bool.{not-false}
use Rattle.part_list.specs.declared.spot.Spot.{Spot}
use Rattle.part_list.specs.Parts.{flat, part_at, place, IsEntry}
use Rattle.part_list.specs.Finds.{FirstAt, LastAt}

pub around : {A : Type 0} (parts : List (List A)) (k : ℕ) → k < length parts → flat parts ≡ flat (take k parts) ++ (part_at parts k ++ flat (drop (k + 1) parts))
around parts k h =
    ap flat (sym (take-append-drop k parts))
    ∙ flat_map-append (λ part. part) (take k parts) (drop k parts)
    ∙ ap (λ rest. flat (take k parts) ++ flat rest) (drop_more parts k [] h)

pub place-lt : {A : Type 0} (parts : List (List A)) (spot : Spot) → IsEntry parts spot → place parts spot < length (flat parts)
place-lt parts spot h =
    let within = h.within in
    let first = length-append (flat (take spot.slot parts)) (part_at parts spot.slot ++ flat (drop (spot.slot + 1) parts)) in
    let second = length-append (part_at parts spot.slot) (flat (drop (spot.slot + 1) parts)) in
    rw (around parts spot.slot h.part) (omega arith)

pub first_passes : {A : Type 0} (p : A → Bool) (parts : List (List A)) (spot : Spot) (d : A) → FirstAt (Some spot) p parts → p (slice_index_or (flat parts) (place parts spot) d) ≡ true
first_passes p parts spot d h =
    let lt = place-lt parts spot h.0 in
    let P : ℕ → Type 0 = λ n. p (slice_index_or (flat parts) n d) ≡ true in
    subst P h.1 (passes_at_first p (flat parts) d (let e = h.1 in omega arith))

pub first_some : {A : Type 0} (p : A → Bool) (parts : List (List A)) (spot : Spot) (d : A) → FirstAt (Some spot) p parts → list_any p (flat parts) ≡ true
first_some p parts spot d h =
    let n = place parts spot in
    let x = slice_index_or (flat parts) n d in
    list_any-from_Any p (flat parts) (n, x, place-lt parts spot h.0, get_or_default (flat parts) n x d (place-lt parts spot h.0), first_passes p parts spot d h)

pub first_none : {A : Type 0} (p : A → Bool) (parts : List (List A)) → FirstAt None p parts → list_any p (flat parts) ≡ false
first_none p parts h = list_any_none p (flat parts) (λ k d lt. fails_before_first p (flat parts) k d (omega arith))

pub last_passes : {A : Type 0} (p : A → Bool) (parts : List (List A)) (spot : Spot) (d : A) → LastAt (Some spot) p parts → p (slice_index_or (flat parts) (place parts spot) d) ≡ true
last_passes p parts spot d h =
    let xs = flat parts in
    let n = suffix_len (λ x. not (p x)) xs in
    let ends = h.1 in
    let long = length-reverse xs in
    let here : length xs - 1 - n ≡ place parts spot = omega arith in
    let stops = prefix_len_stops (λ x. not (p x)) (reverse xs) d (omega arith) in
    let P : ℕ → Type 0 = λ k. not (p (slice_index_or xs k d)) ≡ false in
    let Q : _ → Type 0 = λ x. not (p x) ≡ false in
    not-false (p (slice_index_or xs (place parts spot) d)) (subst P here (subst Q (get_or-reverse xs n d (omega arith)) stops))
