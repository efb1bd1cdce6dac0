-- Entries in order, and those that cannot pass.
use Rattle.std.proofs.Common.{◌≡◌, ℕ, ◌+◌, ◌-◌, ◌<◌, ◌≤◌, ◌⊎◌, Bool, true, false, ◌&&◌, Option, Some, None, List, [], ◌∷◌, ◌++◌, length, take, drop, get_or, refl, sym, ap, subst, ◌∙◌, inl, inr, arith, is_some, option_to_list, unwrap_or}
use Rattle.std.specs.List.{All, filter, position_or_len}
use Rattle.std.proofs.Math.Nat.{eq-or-lt_of_le}
use Rattle.std.proofs.lemmas.Bool.{and_parts, cases_lt}
use Rattle.std.proofs.lemmas.List.{append-nil, length-append, get_or_default, get_or-drop, get_or-take, length-take-le, length-drop, take-append-drop}
use Rattle.std.proofs.Math.ListN.{get_or-append}
use Rattle.std.proofs.Math.Seq.{get_or-append_right, get_or-append_seam}
use Rattle.std.proofs.lemmas.List.Elements.{All-append, filter-append}
use Rattle.std.proofs.lemmas.List.Sums.{position_or_len_is, passes_at_first, fails_before_first}
use Rattle.part_list.specs.declared.reach.Reach.{Reach}
use Rattle.part_list.specs.declared.entry.Entry.{Entry}
use Rattle.part_list.specs.Orders.{AreWithin, IsOrdered, IsOrderedIn, IsUpTo, IsWindow, NoneIn}
use Rattle.part_list.specs.Parts.{spliced}
use Rattle.part_list.specs.Reaches.{IsWithin, IsWider}
use Rattle.part_list.proofs.PassingLemmas.{none_pass}
use Rattle.part_list.proofs.ReachLemmas.{all_wider}

-- the entries up to a place are in order
abbrev pub IsOrderedTo : {A : Type 0} → List (Entry A) → ℕ → Type 0
IsOrderedTo {A} xs n = (i j : ℕ) (d : Entry A) → i ≤ j → j < n → IsUpTo (get_or xs i d) (get_or xs j d)

up_same : {A : Type 0} (a : Entry A) → IsUpTo a a
up_same a = record { code = omega arith; last = omega arith }

up_on : {A : Type 0} (a b c : Entry A) → IsUpTo a b → IsUpTo b c → IsUpTo a c
up_on a b c p q =
    let first = p.code in
    let second = q.code in
    let third = p.last in
    let fourth = q.last in
    record { code = omega arith; last = omega arith }

-- one more entry, which is not below the one before it
pub ordered_more : {A : Type 0} (xs : List (Entry A)) (n : ℕ) (x y : Entry A) → 1 ≤ n → n < length xs → IsOrderedTo xs n → x ≡ get_or xs (n - 1) x → y ≡ get_or xs n y → IsUpTo x y → IsOrderedTo xs (n + 1)
ordered_more xs n x y some inside before x_is y_is next i j d le lt =
    let here : IsUpTo (get_or xs (n - 1) d) (get_or xs n d) =
    subst (λ a. IsUpTo a (get_or xs n d)) (x_is ∙ get_or_default xs (n - 1) x d (omega arith)) (subst (IsUpTo x) (y_is ∙ get_or_default xs n y d inside) next) in
    let at : (j ≡ n) ⊎ (j < n) = eq-or-lt_of_le (omega arith) in
    elim at [
      | inr less ↦ before i j d le less
      | inl end ↦
          let own : (i ≡ n) ⊎ (i < n) = eq-or-lt_of_le (omega arith) in
          elim own [
            | inl same ↦ rw (end, same) (up_same (get_or xs n d))
            | inr less ↦ rw end (up_on _ (get_or xs (n - 1) d) _ (before i (n - 1) d (omega arith) (omega arith)) here)
          ]
    ]

pub ordered_one : {A : Type 0} (xs : List (Entry A)) → IsOrderedTo xs 1
ordered_one xs i j d le lt =
    let first : i ≡ j = omega arith in
    rw first (up_same (get_or xs j d))

pub ordered_less : {A : Type 0} (xs : List (Entry A)) (n : ℕ) → IsOrderedTo xs n → length xs ≤ n → IsOrdered xs
ordered_less xs n h le i j d before lt = h i j d before (omega arith)

-- ---- what stands in the window

chunk : {A : Type 0} (xs : List A) (from to k : ℕ) (d : A) → k < to - from → get_or (take (to - from) (drop from xs)) k d ≡ get_or xs (from + k) d
chunk xs from to k d lt = get_or-take (to - from) (drop from xs) k d lt ∙ get_or-drop from xs k d

chunk_len : {A : Type 0} (xs : List A) (from to : ℕ) → from ≤ to → to ≤ length xs → length (take (to - from) (drop from xs)) ≡ to - from
chunk_len xs from to le within =
    let left = length-drop from xs in
    length-take-le (to - from) (drop from xs) (omega arith)

pub first_none : {A : Type 0} (p : A → Bool) (xs : List A) (from to : ℕ) → IsWindow p xs from to → position_or_len p (take (to - from) (drop from xs)) ≡ length (take (to - from) (drop from xs)) → position_or_len p xs ≡ length xs
first_none p [] from to w h = refl
first_none p (x ∷ rest) from to w h =
    let xs = x ∷ rest in
    let long = chunk_len xs from to w.ordered w.within in
    position_or_len_is p xs (length xs) x (omega arith)
    (λ k lt. elim (cases_lt k from) [
      | inl less ↦ w.before k x (omega arith) less
      | inr over ↦ elim (cases_lt k to) [
        | inr past ↦ w.behind k x past lt
        | inl inner ↦
            let at : from + (k - from) ≡ k = omega arith in
            subst (λ n. p (get_or xs n x) ≡ false) at
            (ap p (sym (chunk xs from to (k - from) x (omega arith))) ∙ fails_before_first p (take (to - from) (drop from xs)) (k - from) x (omega arith))
      ]
    ])
    (λ lt. absurd (omega arith))

pub first_some : {A : Type 0} (p : A → Bool) (xs : List A) (from to at : ℕ) → IsWindow p xs from to → at < length (take (to - from) (drop from xs)) → position_or_len p (take (to - from) (drop from xs)) ≡ at → (from + at < length xs) × (position_or_len p xs ≡ from + at)
first_some {A} p [] from to at w lt h = let long = chunk_len {A = A} [] from to w.ordered w.within in let k = w.within in absurd (omega arith)
first_some p (x ∷ rest) from to at w lt h =
    let xs = x ∷ rest in
    let within = w.within in
    let long = chunk_len xs from to w.ordered w.within in
    let sub = take (to - from) (drop from xs) in
    let here : p (get_or sub at x) ≡ true = subst (λ n. p (get_or sub n x) ≡ true) h (passes_at_first p sub x (omega arith)) in (
      omega arith,
      position_or_len_is p xs (from + at) x (omega arith)
          (λ k less. elim (cases_lt k from) [
            | inl before ↦ w.before k x (omega arith) before
            | inr over ↦
                let is : from + (k - from) ≡ k = omega arith in
                subst (λ n. p (get_or xs n x) ≡ false) is
                (ap p (sym (chunk xs from to (k - from) x (omega arith))) ∙ fails_before_first p sub (k - from) x (omega arith))
          ])
          (λ less. ap p (sym (chunk xs from to at x (omega arith))) ∙ here),
    )

all_in : {A : Type 0} (p : A → Bool) (xs ys : List A) (from : ℕ) → ((k : ℕ) (d : A) → k < length ys → get_or ys k d ≡ get_or xs (from + k) d) → NoneIn p xs from (from + length ys) → filter p ys ≡ []
all_in p xs ys from same none = none_pass p ys (λ k d lt. ap p (same k d lt) ∙ none (from + k) d (omega arith) (omega arith))

pub left_in : {A : Type 0} (p : A → Bool) (xs : List A) (from to : ℕ) → IsWindow p xs from to → filter p (take (to - from) (drop from xs)) ≡ filter p xs
left_in p xs from to w =
    let le = w.ordered in
    let within = w.within in
    let front = take from xs in
    let inner = take (to - from) (drop from xs) in
    let behind = drop (to - from) (drop from xs) in
    let front_len = length-take-le from xs (omega arith) in
    let rest_len = length-drop from xs in
    let behind_len = length-drop (to - from) (drop from xs) in
    let no_front : filter p front ≡ [] = all_in p xs front 0 (λ k d lt. get_or-take from xs k d (omega arith) ∙ ap (λ n. get_or xs n d) (let e : k ≡ 0 + k = omega arith in e)) (λ k d low lt. w.before k d low (omega arith)) in
    let no_behind : filter p behind ≡ [] =
    all_in p xs behind to (λ k d lt. get_or-drop (to - from) (drop from xs) k d ∙ get_or-drop from xs (to - from + k) d ∙ ap (λ n. get_or xs n d) (let e : from + (to - from + k) ≡ to + k = omega arith in e)) (λ k d low lt. w.behind k d low (omega arith)) in
    sym (
    ap (filter p) (sym (take-append-drop from xs))
    ∙ filter-append p front (drop from xs)
    ∙ ap (λ ys. ys ++ filter p (drop from xs)) no_front
    ∙ ap (filter p) (sym (take-append-drop (to - from) (drop from xs)))
    ∙ filter-append p inner behind
    ∙ ap (λ ys. filter p inner ++ ys) no_behind
    ∙ append-nil (filter p inner))

-- ---- bounds

pub within_ordered : {A : Type 0} (xs : List (Entry A)) (reach : Reach) (most from to : ℕ) (first last : Entry A) → IsOrdered xs → All (IsWithin reach) xs → to ≤ length xs → last ≡ get_or xs (to - 1) last → last.code ≤ most → last.last ≤ most
    → AreWithin (record { least = (get_or xs from first).code; most = most; least_tag = reach.least_tag; most_tag = reach.most_tag }) xs from to
within_ordered xs reach most from to first last ordered within le last_is code_most last_most k d low lt =
    let own = within k d (omega arith) in
    let before = subst (λ a. IsUpTo a (get_or xs k d)) (get_or_default xs from d first (omega arith)) (ordered from k d low (omega arith)) in
    let behind = subst (λ a. IsUpTo (get_or xs k d) a) (sym (last_is ∙ get_or_default xs (to - 1) last d (omega arith))) (ordered k (to - 1) d (omega arith) (omega arith)) in
    let from_code = before.code in
    let to_code = behind.code in
    let to_last = behind.last in
    record { least = omega arith; code = omega arith; last = omega arith; least_tag = own.least_tag; most_tag = own.most_tag }

-- one more entry at the end
pub ordered_push : {A : Type 0} (xs : List (Entry A)) (e x : Entry A) → IsOrdered xs → (0 < length xs → (x ≡ get_or xs (length xs - 1) x) × IsUpTo x e) → IsOrdered (xs ++ e ∷ [])
ordered_push xs e x ordered next =
    let ys = xs ++ e ∷ [] in
    let long = length-append xs (e ∷ []) in
    let old : IsOrderedTo ys (length xs) = λ i j d le lt.
    subst (λ a. IsUpTo a (get_or ys j d)) (sym (get_or-append xs (e ∷ []) d i (omega arith))) (subst (IsUpTo (get_or xs i d)) (sym (get_or-append xs (e ∷ []) d j lt)) (ordered i j d le lt)) in
    let at : (length xs ≡ 0) ⊎ (0 < length xs) = elim (cases_lt 0 (length xs)) [ inl some ↦ inr some | inr none ↦ inl (omega arith) ] in
    elim at [
      | inl none ↦ (let one : 1 ≡ length xs + 1 = omega arith in ordered_less ys (length xs + 1) (subst (IsOrderedTo ys) one (ordered_one ys)) (omega arith))
      | inr some ↦
          let both = next some in
          ordered_less ys (length xs + 1)
          (ordered_more ys (length xs) x e some (omega arith) old (both.0 ∙ sym (get_or-append xs (e ∷ []) x (length xs - 1) (omega arith))) (sym (get_or-append_seam xs e [] e)) both.1)
          (omega arith)
    ]

-- a part that was not edited, with one more entry at the end
pub ordered_pushed : {A : Type 0} (edit : Option (List (Entry A))) (kept new : List (Entry A)) (e : Entry A) (a b : Bool) → is_some edit ≡ false → new ≡ kept ++ e ∷ [] → (a ≡ true → IsOrdered (unwrap_or edit kept)) → (b ≡ true → IsOrdered kept → IsOrdered (kept ++ e ∷ [])) → (a && b) ≡ true → IsOrdered (unwrap_or edit new)
ordered_pushed None kept new e a b none is old next told =
    let both = and_parts a b told in
    subst IsOrdered (sym is) (next both.1 (old both.0))
ordered_pushed (Some edit) kept new e a b none is old next told = absurd cc

pub within_pushed : {A : Type 0} (edit : Option (List (Entry A))) (kept new : List (Entry A)) (e : Entry A) (old wide : Reach) → is_some edit ≡ false → new ≡ kept ++ e ∷ [] → IsWider old wide → IsWithin wide e → All (IsWithin old) (unwrap_or edit kept) → All (IsWithin wide) (unwrap_or edit new)
within_pushed None kept new e old wide none is wider here before =
    subst (All (IsWithin wide)) (sym is)
    (All-append (IsWithin wide) kept (e ∷ []) (all_wider old wide wider kept before)
    (λ k d lt. let first : 0 ≡ k = omega arith in subst (λ n. IsWithin wide (get_or (e ∷ []) n d)) first here))
within_pushed (Some edit) kept new e old wide none is wider here before = absurd cc

-- ---- an edit

pub window_ordered : {A : Type 0} (xs : List (Entry A)) (from to : ℕ) → from ≤ to → to ≤ length xs → IsOrdered (take (to - from) (drop from xs)) → IsOrderedIn xs from to
window_ordered xs from to le within ordered i j d low up below inside =
    let sub = take (to - from) (drop from xs) in
    let long = chunk_len xs from to le within in
    let at_i : from + (i - from) ≡ i = omega arith in
    let at_j : from + (j - from) ≡ j = omega arith in
    let read_i : get_or sub (i - from) d ≡ get_or xs i d = chunk xs from to (i - from) d (omega arith) ∙ ap (λ n. get_or xs n d) at_i in
    let read_j : get_or sub (j - from) d ≡ get_or xs j d = chunk xs from to (j - from) d (omega arith) ∙ ap (λ n. get_or xs n d) at_j in
    subst (λ a. IsUpTo a (get_or xs j d)) read_i (subst (IsUpTo (get_or sub (i - from) d)) read_j (ordered (i - from) (j - from) d (omega arith) (omega arith)))

pub ordered_wide : {A : Type 0} (xs : List (Entry A)) (a b c e : ℕ) → IsOrderedIn xs a b → a ≤ c → (e ≤ b) ⊎ (length xs ≤ b) → IsOrderedIn xs c e
ordered_wide xs a b c e h le wide i j d low up below inside =
    elim wide [
      | inl to ↦ h i j d (omega arith) up (omega arith) inside
      | inr all ↦ h i j d (omega arith) up (omega arith) inside
    ]

ordered_overlap : {A : Type 0} (xs : List (Entry A)) (a b c e : ℕ) → IsOrderedIn xs a b → IsOrderedIn xs c e → a ≤ c → c < b → IsOrderedIn xs a e
ordered_overlap xs a b c e first second le lt i j d low up below inside =
    elim (cases_lt j b) [
      | inl inner ↦ first i j d low up inner inside
      | inr past ↦ elim (cases_lt i c) [
        | inr behind ↦ second i j d behind up below inside
        | inl before ↦ up_on _ (get_or xs c d) _ (first i c d low (omega arith) lt (omega arith)) (second c j d (omega arith) (omega arith) below inside)
      ]
    ]

front_at : {A : Type 0} (xs ys : List A) (at n k : ℕ) (d : A) → at + n ≤ length xs → k < at → get_or (spliced xs at n ys) k d ≡ get_or xs k d
front_at xs ys at n k d le lt =
    let long = length-take-le at xs (omega arith) in
    let both = length-append (take at xs) ys in
    get_or-append (take at xs ++ ys) (drop (at + n) xs) d k (omega arith) ∙ get_or-append (take at xs) ys d k (omega arith) ∙ get_or-take at xs k d lt

behind_at : {A : Type 0} (xs ys : List A) (at n k : ℕ) (d : A) → at + n ≤ length xs → at + length ys ≤ k → get_or (spliced xs at n ys) k d ≡ get_or xs (at + n + (k - (at + length ys))) d
behind_at xs ys at n k d le low =
    let long = length-take-le at xs (omega arith) in
    let both = length-append (take at xs) ys in
    let same : k - length (take at xs ++ ys) ≡ k - (at + length ys) = omega arith in
    get_or-append_right (take at xs ++ ys) (drop (at + n) xs) k d (omega arith) ∙ get_or-drop (at + n) xs (k - length (take at xs ++ ys)) d ∙ ap (λ m. get_or xs (at + n + m) d) same

pub ordered_spliced : {A : Type 0} (xs : List (Entry A)) (at n : ℕ) (ys : List (Entry A)) → at + n ≤ length xs → length ys ≤ 2 → IsOrdered xs → IsOrderedIn (spliced xs at n ys) (at - 1) (at + 3) → IsOrdered (spliced xs at n ys)
ordered_spliced xs at n ys le few old around =
    let new = spliced xs at n ys in
    let long = length-take-le at xs (omega arith) in
    let both = length-append (take at xs) ys in
    let rest = length-drop (at + n) xs in
    let whole = length-append (take at xs ++ ys) (drop (at + n) xs) in
    let front : IsOrderedIn new 0 at = λ i j d low up below inside.
    subst (λ a. IsUpTo a (get_or new j d)) (sym (front_at xs ys at n i d le (omega arith))) (subst (IsUpTo (get_or xs i d)) (sym (front_at xs ys at n j d le below)) (old i j d up (omega arith))) in
    let behind : IsOrderedIn new (at + length ys) (length new) = λ i j d low up below inside.
    subst (λ a. IsUpTo a (get_or new j d)) (sym (behind_at xs ys at n i d le low))
    (subst (IsUpTo (get_or xs (at + n + (i - (at + length ys))) d)) (sym (behind_at xs ys at n j d le (omega arith))) (old _ _ d (omega arith) (omega arith))) in
    let first : IsOrderedIn new 0 (at + 3) = elim (cases_lt 0 at) [
      | inl some ↦ ordered_overlap new 0 at (at - 1) (at + 3) front around (omega arith) (omega arith)
      | inr none ↦ ordered_wide new (at - 1) (at + 3) 0 (at + 3) around (omega arith) (inl (omega arith))
    ] in
    let all : IsOrderedIn new 0 (length new) = ordered_overlap new 0 (at + 3) (at + length ys) (length new) first behind (omega arith) (omega arith) in
    λ i j d up inside. all i j d (omega arith) up inside inside

pub few_put : {A : Type 0} (a b : Option A) → length (option_to_list a ++ option_to_list b) ≤ 2
few_put None None = omega arith
few_put None (Some y) = omega arith
few_put (Some x) None = omega arith
few_put (Some x) (Some y) = omega arith
