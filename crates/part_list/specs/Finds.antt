-- What a search answers.
-- FirstAt result p parts    the spot of the first entry of the list that passes p; None if none passes
-- LastAt result p parts     the same of the last entry that passes p
-- StandsAt result n parts   the spot of the entry at the place n of the list, counted from 0; None past the last
-- IsBefore result spot parts   the spot of the entry before the one at a spot; None if that one is the first of the list
-- FirstIn, LastIn           the same within one part, whose entries are counted from 0
use Rattle.std.specs.Prelude.{◌≡◌, ℕ, ◌+◌, ◌<◌, ◌≤◌, Bool, not, List, length, Option, Some, None}
use Rattle.std.specs.List.{position_or_len, suffix_len}
use Rattle.part_list.specs.declared.spot.Spot.{Spot}
use Rattle.part_list.specs.Parts.{flat, place, IsEntry}

abbrev pub FirstAt : {A : Type 0} → Option Spot → (A → Bool) → List (List A) → Type 0
FirstAt None p parts = position_or_len p (flat parts) ≡ length (flat parts)
FirstAt (Some spot) p parts = IsEntry parts spot × (position_or_len p (flat parts) ≡ place parts spot)

abbrev pub LastAt : {A : Type 0} → Option Spot → (A → Bool) → List (List A) → Type 0
LastAt None p parts = suffix_len (λ x. not (p x)) (flat parts) ≡ length (flat parts)
LastAt (Some spot) p parts = IsEntry parts spot × (place parts spot + 1 + suffix_len (λ x. not (p x)) (flat parts) ≡ length (flat parts))

abbrev pub StandsAt : {A : Type 0} → Option Spot → ℕ → List (List A) → Type 0
StandsAt None n parts = length (flat parts) ≤ n
StandsAt (Some spot) n parts = IsEntry parts spot × (place parts spot ≡ n)

abbrev pub IsBefore : {A : Type 0} → Option Spot → Spot → List (List A) → Type 0
IsBefore None spot parts = place parts spot ≡ 0
IsBefore (Some before) spot parts = IsEntry parts before × (place parts before + 1 ≡ place parts spot)

abbrev pub FirstIn : {A : Type 0} → Option ℕ → (A → Bool) → List A → Type 0
FirstIn None p xs = position_or_len p xs ≡ length xs
FirstIn (Some at) p xs = (at < length xs) × (position_or_len p xs ≡ at)

abbrev pub LastIn : {A : Type 0} → Option ℕ → (A → Bool) → List A → Type 0
LastIn None p xs = suffix_len (λ x. not (p x)) xs ≡ length xs
LastIn (Some at) p xs = (at < length xs) × (at + 1 + suffix_len (λ x. not (p x)) xs ≡ length xs)
