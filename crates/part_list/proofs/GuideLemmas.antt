-- Blocks of parts, and their bounds.
use Rattle.std.proofs.Common.{◌≡◌, ◌⊎◌, inl, inr, ℕ, zero, suc, ◌+◌, ◌-◌, ◌*◌, ◌/◌, ◌<◌, ◌≤◌, Bool, true, false, cond, List, [], ◌∷◌, ◌++◌, length, take, drop, map, set, get_or, refl, sym, ap, subst, ◌∙◌, arith}
use Rattle.std.specs.List.{All, filter, position_or_len}
use Rattle.std.proofs.Math.Nat.{eq-or-lt_of_le}
use Rattle.std.proofs.lemmas.Bool.{cases_lt}
use Rattle.std.proofs.lemmas.List.{take_all, drop_all, drop_more, drop-map, take-map, length-append, length-map, length-set, get_or_past, get_or-drop, get_or-take, map-set, get_or-set_other}
use Rattle.std.proofs.lemmas.Grind.{get_or-set_at}
use Rattle.std.proofs.Math.ListN.{get_or-append}
use Rattle.std.proofs.Math.Seq.{get_or-append_seam}
use Rattle.std.proofs.lemmas.List.Elements.{filter-append}
use Rattle.part_list.specs.declared.reach.Reach.{Reach}
use Rattle.part_list.specs.declared.entry.Entry.{Entry}
use Rattle.part_list.specs.Guides.{Covers, CoversBut, RulesOut, width}
use Rattle.part_list.specs.Parts.{flat, part_at}
use Rattle.part_list.specs.PartValues.{PartValue, committed, discarded, has_entries, parts_now, parts_next}
use Rattle.part_list.specs.Reaches.{IsWithin, IsWider, Skips}
use Rattle.part_list.proofs.FindLemmas.{none_of-more}
use Rattle.part_list.proofs.FlatLemmas.{part_next}
use Rattle.part_list.proofs.PassingLemmas.{behind_left, none_pass}
use Rattle.part_list.proofs.ReachLemmas.{all_wider, none_first, skipped}

-- a part that is not there has no entries
past : {A : Type 0} (P : A → Type 0) (xs : List (List A)) (k : ℕ) → length xs ≤ k → All P (part_at xs k)
past P xs k h = rw (get_or_past xs k [] h) (λ i d lt. absurd (omega arith))

-- the entries of one more part are within the wider reach
pub within_more : {A : Type 0} (old new : Reach) (ps : List (PartValue (Entry A))) (n : ℕ) (part : PartValue (Entry A)) → IsWider old new → n < length ps → part ≡ get_or ps n part → All (IsWithin new) part.next → ((k : ℕ) → k < n → All (IsWithin old) (part_at (parts_next ps) k)) → (k : ℕ) → k < n + 1 → All (IsWithin new) (part_at (parts_next ps) k)
within_more old new ps n part wider lt is here before k below =
    let P : ℕ → Type 0 = λ j. All (IsWithin new) (part_at (parts_next ps) j) in
    let at : (k ≡ n) ⊎ (k < n) = eq-or-lt_of_le (omega arith) in
    elim at [
      | inl same ↦ subst P (sym same) (rw (part_next ps n part lt is) here)
      | inr less ↦ all_wider old new wider (part_at (parts_next ps) k) (before k less)
    ]

-- what is so of each part that is there is so of all
pub all_parts : {A : Type 0} (P : A → Type 0) (xs : List (List A)) → ((k : ℕ) → k < length xs → All P (part_at xs k)) → (k : ℕ) → All P (part_at xs k)
all_parts P xs each k =
    let at : (k < length xs) ⊎ (length xs ≤ k) = cases_lt k (length xs) in
    elim at [
      | inl less ↦ each k less
      | inr h ↦ past P xs k h
    ]

-- the parts of a block, which reaches to the end or has its full width
pub in_block : {A : Type 0} (P : Entry A → Type 0) (ps : List (PartValue (Entry A))) (from to k : ℕ) → to ≤ length ps → k < width → (to < length ps → to ≡ from + width) → ((j : ℕ) → All P (part_at (parts_next (take (to - from) (drop from ps))) j)) → All P (part_at (parts_next ps) (from + k))
in_block P ps from to k le small full each =
    let xs = parts_next ps in
    let at : (from + k < to) ⊎ (to ≤ from + k) = cases_lt (from + k) to in
    let long : length xs ≡ length ps = length-map ps (λ part. part.next) in
    elim at [
      | inl less ↦
          let here : part_at (parts_next (take (to - from) (drop from ps))) k ≡ part_at xs (from + k) =
          ap (λ (ys : List (List _)). part_at ys k) (sym (take-map (λ (part : PartValue _). part.next) (to - from) (drop from ps)) ∙ ap (take (to - from)) (sym (drop-map (λ (part : PartValue _). part.next) from ps)))
          ∙ get_or-take (to - from) (drop from xs) k [] (omega arith)
          ∙ get_or-drop from xs k [] in
          subst (All P) here (each k)
      | inr behind ↦
          let then : (to < length ps) ⊎ (length ps ≤ to) = cases_lt to (length ps) in
          elim then [
            | inl less ↦ (let e = full less in absurd (omega arith))
            | inr h ↦ past P xs (from + k) (omega arith)
          ]
    ]

pub covers_more : {A : Type 0} (guides : List Reach) (r : Reach) (xs : List (List (Entry A))) → Covers guides xs → ((k : ℕ) → k < width → All (IsWithin r) (part_at xs (length guides * width + k))) → Covers (guides ++ r ∷ []) xs
covers_more guides r xs old new block k d lt small =
    let here : Reach → ℕ → Type 0 = λ g b. All (IsWithin g) (part_at xs (b * width + k)) in
    let at : (block < length guides) ⊎ (length guides ≤ block) = cases_lt block (length guides) in
    elim at [
      | inl less ↦ rw (get_or-append guides (r ∷ []) d block less) (old block k d less small)
      | inr le ↦
          let long = length-append guides (r ∷ []) in
          let same : length guides ≡ block = omega arith in
          let read : r ≡ get_or (guides ++ r ∷ []) block d = sym (get_or-append_seam guides r [] d) ∙ ap (λ n. get_or (guides ++ r ∷ []) n d) same in
          subst (λ g. here g block) read (subst (here r) same (new k small))
    ]

pub covers_set : {A : Type 0} (guides : List Reach) (r : Reach) (slot : ℕ) (xs : List (List (Entry A))) → slot / width < length guides → CoversBut slot guides xs → ((k : ℕ) → k < width → All (IsWithin r) (part_at xs (slot / width * width + k))) → Covers (set guides (slot / width) r) xs
covers_set guides r slot xs inside others new block k d lt small =
    let s = slot / width in
    let here : Reach → ℕ → Type 0 = λ g b. All (IsWithin g) (part_at xs (b * width + k)) in
    let long = length-set guides s r in
    let kept : (block ≡ s → ⊥) → here (get_or (set guides s r) block d) block = λ other. rw (get_or-set_other guides s block r d other) (others block k d (omega arith) small other) in
    let at : (block < s) ⊎ (s ≤ block) = cases_lt block s in
    elim at [
      | inl less ↦ kept (λ e. absurd (omega arith))
      | inr le ↦
          let then : (s ≡ block) ⊎ (s < block) = eq-or-lt_of_le le in
          elim then [
            | inl same ↦ subst (λ g. here g block) (sym (get_or-set_at guides s block r d (sym same) inside)) (subst (here r) same (new k small))
            | inr more ↦ kept (λ e. absurd (omega arith))
          ]
    ]

-- a block that is skipped rules its parts out
pub ruled_more : {A : Type 0} (p : Entry A → Bool) (guides : List Reach) (xs : List (List (Entry A))) (from block : ℕ) (d : Reach) → Covers guides xs → block < length guides → Skips p (get_or guides block d) → RulesOut p xs from (block * width) → RulesOut p xs from (block * width + width)
ruled_more p guides xs from block d covers inside skips ruled slot le lt =
    let at : (slot < block * width) ⊎ (block * width ≤ slot) = cases_lt slot (block * width) in
    elim at [
      | inl less ↦ ruled slot le less
      | inr behind ↦
          let k = slot - block * width in
          let same : block * width + k ≡ slot = omega arith in
          let within = covers block k d inside (omega arith) in
          subst (λ s. All (λ x. p x ≡ false) (part_at xs s)) same (skipped p (get_or guides block d) (part_at xs (block * width + k)) skips within)
    ]

abbrev NoneIn : {A : Type 0} → (A → Bool) → List (List A) → ℕ → Type 0
NoneIn p xs n = position_or_len p (flat (take n xs)) ≡ length (flat (take n xs))

none_on : {A : Type 0} (p : A → Bool) (xs : List (List A)) (a n : ℕ) → NoneIn p xs a → RulesOut p xs a (a + n) → NoneIn p xs (a + n)
none_on p xs a zero none ruled = subst (NoneIn p xs) (let e : a ≡ a + 0 = omega arith in e) none
none_on p xs a (suc n) none ruled =
    let less : NoneIn p xs (a + n) = none_on p xs a n none (λ slot le lt. ruled slot le (omega arith)) in
    let next : a + n + 1 ≡ a + suc n = omega arith in
    let at : (a + n < length xs) ⊎ (length xs ≤ a + n) = cases_lt (a + n) (length xs) in
    elim at [
      | inl lt ↦ subst (NoneIn p xs) next (none_of-more p xs (a + n) lt less (none_first p (part_at xs (a + n)) (ruled (a + n) (omega arith) (omega arith))))
      | inr h ↦
          let whole : take (a + n) xs ≡ take (a + suc n) xs = take_all (a + n) xs h ∙ sym (take_all (a + suc n) xs (omega arith)) in
          subst (λ ys. position_or_len p (flat ys) ≡ length (flat ys)) whole less
    ]

-- no entry before the part that is next passes
pub none_of-ruled : {A : Type 0} (p : A → Bool) (xs : List (List A)) (a b : ℕ) → a ≤ b → position_or_len p (flat (take a xs)) ≡ length (flat (take a xs)) → RulesOut p xs a b → position_or_len p (flat (take b xs)) ≡ length (flat (take b xs))
none_of-ruled p xs a b le none ruled =
    let same : a + (b - a) ≡ b = omega arith in
    subst (NoneIn p xs) same (none_on p xs a (b - a) none (λ slot from lt. ruled slot from (omega arith)))

-- no part is left
pub none_of-all : {A : Type 0} (p : A → Bool) (ps : List (PartValue A)) (n : ℕ) → length ps ≤ n → position_or_len p (flat (take n (parts_next ps))) ≡ length (flat (take n (parts_next ps))) → position_or_len p (flat (parts_next ps)) ≡ length (flat (parts_next ps))
none_of-all p ps n h none =
    let long : length (parts_next ps) ≡ length ps = length-map ps (λ part. part.next) in
    subst (λ xs. position_or_len p (flat xs) ≡ length (flat xs)) (take_all n (parts_next ps) (omega arith)) none

left_on : {A : Type 0} (p : A → Bool) (xs : List (List A)) (a n : ℕ) → RulesOut p xs a (a + n) → filter p (flat (drop a xs)) ≡ filter p (flat (drop (a + n) xs))
left_on p xs a zero ruled = ap (λ k. filter p (flat (drop k xs))) (let e : a ≡ a + 0 = omega arith in e)
left_on p xs a (suc n) ruled =
    let less = left_on p xs a n (λ slot le lt. ruled slot le (omega arith)) in
    let next : a + n + 1 ≡ a + suc n = omega arith in
    let at : (a + n < length xs) ⊎ (length xs ≤ a + n) = cases_lt (a + n) (length xs) in
    elim at [
      | inl lt ↦
          less
          ∙ ap (λ ys. filter p (flat ys)) (drop_more xs (a + n) [] lt)
          ∙ filter-append p (part_at xs (a + n)) (flat (drop (a + n + 1) xs))
          ∙ ap (λ ys. ys ++ filter p (flat (drop (a + n + 1) xs))) (none_pass p (part_at xs (a + n)) (ruled (a + n) (omega arith) (omega arith)))
          ∙ ap (λ k. filter p (flat (drop k xs))) next
      | inr h ↦ less ∙ ap (λ ys. filter p (flat ys)) (drop_all (a + n) xs h ∙ sym (drop_all (a + suc n) xs (omega arith)))
    ]

-- what passes of the parts from one on is what passes from the next one on
pub left_of-ruled : {A : Type 0} (p : A → Bool) (xs : List (List A)) (a b : ℕ) → a ≤ b → RulesOut p xs a b → filter p (flat (drop a xs)) ≡ filter p (flat (drop b xs))
left_of-ruled p xs a b le ruled =
    let same : a + (b - a) ≡ b = omega arith in
    left_on p xs a (b - a) (λ slot from lt. ruled slot from (omega arith)) ∙ ap (λ k. filter p (flat (drop k xs))) same

-- no entry is left
pub none_left : {A : Type 0} (p : A → Bool) (xs : List A) (ps : List (PartValue A)) (slot next : ℕ) (left : List A) → filter p (xs ++ flat (drop slot (parts_next ps))) ≡ left → position_or_len p xs ≡ length xs → slot ≤ next → RulesOut p (parts_next ps) slot next → length ps ≤ next → left ≡ []
none_left p xs ps slot next left is none le ruled h =
    let long : length (parts_next ps) ≡ length ps = length-map ps (λ part. part.next) in
    behind_left p xs (flat (drop slot (parts_next ps))) left is none
    ∙ left_of-ruled p (parts_next ps) slot next le ruled
    ∙ ap (λ ys. filter p (flat ys)) (drop_all next (parts_next ps) (omega arith))

-- the next part is begun
pub part_begun : {A : Type 0} (p : A → Bool) (xs : List A) (ps : List (PartValue A)) (slot next : ℕ) (part : PartValue A) (begun left : List A) → filter p (xs ++ flat (drop slot (parts_next ps))) ≡ left → position_or_len p xs ≡ length xs → slot ≤ next → RulesOut p (parts_next ps) slot next → next < length ps → part ≡ get_or ps next part → filter p begun ≡ filter p part.next → filter p (begun ++ flat (drop (next + 1) (parts_next ps))) ≡ left
part_begun p xs ps slot next part begun left is none le ruled lt here same =
    let rest = flat (drop (next + 1) (parts_next ps)) in
    let long : length (parts_next ps) ≡ length ps = length-map ps (λ part. part.next) in
    filter-append p begun rest
    ∙ ap (λ zs. zs ++ filter p rest) (same ∙ ap (filter p) (sym (part_next ps next part lt here)))
    ∙ sym (filter-append p (part_at (parts_next ps) next) rest)
    ∙ ap (λ ys. filter p (flat ys)) (sym (drop_more (parts_next ps) next [] (omega arith)))
    ∙ sym (left_of-ruled p (parts_next ps) slot next le ruled)
    ∙ sym (behind_left p xs (flat (drop slot (parts_next ps))) left is none)

-- one part is another one
pub other_parts : {A B : Type 0} (f : A → List B) (ps : List A) (slot k : ℕ) (new : A) → (k ≡ slot → ⊥) → part_at (map f (set ps slot new)) k ≡ part_at (map f ps) k
other_parts f ps slot k new other = ap (λ xs. part_at xs k) (map-set f ps slot new) ∙ get_or-set_other (map f ps) slot k (f new) [] other

kept_same : {A : Type 0} (b : Bool) (p : PartValue A) (ps : List (PartValue A)) → p.now ≡ p.next → parts_now ps ≡ parts_next ps → parts_now (cond b (p ∷ ps) ps) ≡ parts_next (cond b (p ∷ ps) ps)
kept_same true p ps here rest = ap (λ xs. xs ∷ parts_now ps) here ∙ ap (λ xs. p.next ∷ xs) rest
kept_same false p ps here rest = rest

-- parts of which nothing is edited
pub same_kept : {A : Type 0} (ps : List (PartValue A)) → parts_now (filter has_entries (map committed ps)) ≡ parts_next (filter has_entries (map committed ps))
same_kept [] = refl
same_kept (p ∷ ps) = kept_same (has_entries (committed p)) (committed p) (filter has_entries (map committed ps)) refl (same_kept ps)

pub settled_committed : {A : Type 0} (ps : List (PartValue A)) → map committed (map committed ps) ≡ map committed ps
settled_committed [] = refl
settled_committed (p ∷ ps) = ap (λ rest. committed p ∷ rest) (settled_committed ps)

pub settled_discarded : {A : Type 0} (ps : List (PartValue A)) → map committed (map discarded ps) ≡ map discarded ps
settled_discarded [] = refl
settled_discarded (p ∷ ps) = ap (λ rest. discarded p ∷ rest) (settled_discarded ps)
