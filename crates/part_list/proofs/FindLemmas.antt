-- Searches part by part.
use Rattle.std.proofs.Common.{◌≡◌, ℕ, ◌+◌, ◌<◌, Bool, not, true, false, List, [], ◌++◌, length, take, drop, reverse, eqb, cond, get_or, Some, None, sym, ap, ◌∙◌, arith}
use Rattle.std.specs.List.{prefix_len, position_or_len, suffix_len}
use Rattle.std.proofs.lemmas.Bool.Decides.{nat_tests}
use Rattle.std.proofs.lemmas.List.{length-append, length-reverse, length-map, reverse-append, drop_more}
use Rattle.std.proofs.lemmas.List.Folds.{prefix_len-append}
use Rattle.part_list.specs.Parts.{flat, part_at, before}
use Rattle.part_list.specs.Finds.{FirstAt, LastAt, FirstIn, LastIn}
use Rattle.part_list.specs.PartValues.{PartValue, parts_next}
use Rattle.part_list.specs.SpotLaws.{around}
use Rattle.part_list.proofs.FlatLemmas.{flat-take_more, part_next}

pub prefix_len-all : {A : Type 0} (p : A → Bool) (xs ys : List A) → prefix_len p xs ≡ length xs → prefix_len p (xs ++ ys) ≡ length xs + prefix_len p ys
prefix_len-all p xs ys h =
    let same : eqb (prefix_len p xs) (length xs) ≡ true = grind (arith, nat_tests) in
    prefix_len-append p xs ys ∙ ap (λ b. cond b (length xs + prefix_len p ys) (prefix_len p xs)) same

prefix_len-some : {A : Type 0} (p : A → Bool) (xs ys : List A) → prefix_len p xs < length xs → prefix_len p (xs ++ ys) ≡ prefix_len p xs
prefix_len-some p xs ys h =
    let other : eqb (prefix_len p xs) (length xs) ≡ false = grind (arith, nat_tests) in
    prefix_len-append p xs ys ∙ ap (λ b. cond b (length xs + prefix_len p ys) (prefix_len p xs)) other

-- none of the entries of one more part passes
pub none_of-more : {A : Type 0} (p : A → Bool) (xs : List (List A)) (k : ℕ) → k < length xs → position_or_len p (flat (take k xs)) ≡ length (flat (take k xs)) → position_or_len p (part_at xs k) ≡ length (part_at xs k) → position_or_len p (flat (take (k + 1) xs)) ≡ length (flat (take (k + 1) xs))
none_of-more p xs k h front here =
    rw (flat-take_more xs k h)
    (prefix_len-all (λ x. not (p x)) (flat (take k xs)) (part_at xs k) front ∙ ap (λ n. length (flat (take k xs)) + n) here ∙ sym (length-append (flat (take k xs)) (part_at xs k)))

-- the first that passes stands in this part
pub first_of : {A : Type 0} (p : A → Bool) (xs : List (List A)) (k at : ℕ) → k < length xs → position_or_len p (flat (take k xs)) ≡ length (flat (take k xs)) → at < length (part_at xs k) → position_or_len p (part_at xs k) ≡ at → position_or_len p (flat xs) ≡ before xs k + at
first_of p xs k at h front within here =
    rw (around xs k h)
    (prefix_len-all (λ x. not (p x)) (flat (take k xs)) (part_at xs k ++ flat (drop (k + 1) xs)) front
    ∙ ap (λ n. length (flat (take k xs)) + n) (prefix_len-some (λ x. not (p x)) (part_at xs k) (flat (drop (k + 1) xs)) (omega arith) ∙ here))

suffix_len-all : {A : Type 0} (p : A → Bool) (xs ys : List A) → suffix_len p ys ≡ length ys → suffix_len p (xs ++ ys) ≡ length ys + suffix_len p xs
suffix_len-all p xs ys h =
    let n = length-reverse ys in
    rw (reverse-append xs ys) (prefix_len-all p (reverse ys) (reverse xs) (h ∙ sym n) ∙ ap (λ m. m + suffix_len p xs) n)

suffix_len-some : {A : Type 0} (p : A → Bool) (xs ys : List A) → suffix_len p ys < length ys → suffix_len p (xs ++ ys) ≡ suffix_len p ys
suffix_len-some p xs ys h =
    let n = length-reverse ys in
    rw (reverse-append xs ys) (prefix_len-some p (reverse ys) (reverse xs) (omega arith))

-- none of the entries from one part before on passes
pub none_from-more : {A : Type 0} (p : A → Bool) (xs : List (List A)) (k : ℕ) → k < length xs → suffix_len (λ x. not (p x)) (flat (drop (k + 1) xs)) ≡ length (flat (drop (k + 1) xs)) → suffix_len (λ x. not (p x)) (part_at xs k) ≡ length (part_at xs k) → suffix_len (λ x. not (p x)) (flat (drop k xs)) ≡ length (flat (drop k xs))
none_from-more p xs k h back here =
    rw (drop_more xs k [] h)
    (suffix_len-all (λ x. not (p x)) (part_at xs k) (flat (drop (k + 1) xs)) back
    ∙ (let n = length-append (part_at xs k) (flat (drop (k + 1) xs)) in omega arith))

-- the last that passes stands in this part
pub last_of : {A : Type 0} (p : A → Bool) (xs : List (List A)) (k at : ℕ) → k < length xs → suffix_len (λ x. not (p x)) (flat (drop (k + 1) xs)) ≡ length (flat (drop (k + 1) xs)) → at < length (part_at xs k) → at + 1 + suffix_len (λ x. not (p x)) (part_at xs k) ≡ length (part_at xs k) → before xs k + at + 1 + suffix_len (λ x. not (p x)) (flat xs) ≡ length (flat xs)
last_of p xs k at h back within here =
    let back_len = length-append (part_at xs k) (flat (drop (k + 1) xs)) in
    let all_len = length-append (flat (take k xs)) (part_at xs k ++ flat (drop (k + 1) xs)) in
    let inner = suffix_len-all (λ x. not (p x)) (part_at xs k) (flat (drop (k + 1) xs)) back in
    let outer = suffix_len-some (λ x. not (p x)) (flat (take k xs)) (part_at xs k ++ flat (drop (k + 1) xs)) (omega arith) in
    rw (around xs k h) (omega arith)

pub FirstAt-found : {A : Type 0} (p : A → Bool) (ps : List (PartValue A)) (k at : ℕ) (part : PartValue A) → k < length ps → part ≡ get_or ps k part → position_or_len p (flat (take k (parts_next ps))) ≡ length (flat (take k (parts_next ps))) → FirstIn (Some at) p part.next → FirstAt (Some (record { slot = k; at = at })) p (parts_next ps)
FirstAt-found p ps k at part h e front found =
    let long = length-map ps (λ part. part.next) in
    let here = part_next ps k part h e in
    let within : at < length (part_at (parts_next ps) k) = rw here found.0 in
    let slot : k < length (parts_next ps) = omega arith in
    (record { part = slot; within = within }, first_of p (parts_next ps) k at slot front within (rw here found.1))

pub none_of-part : {A : Type 0} (p : A → Bool) (ps : List (PartValue A)) (k : ℕ) (part : PartValue A) → k < length ps → part ≡ get_or ps k part → position_or_len p (flat (take k (parts_next ps))) ≡ length (flat (take k (parts_next ps))) → FirstIn None p part.next → position_or_len p (flat (take (k + 1) (parts_next ps))) ≡ length (flat (take (k + 1) (parts_next ps)))
none_of-part p ps k part h e front none =
    let long = length-map ps (λ part. part.next) in
    none_of-more p (parts_next ps) k (omega arith) front (rw (part_next ps k part h e) none)

pub LastAt-found : {A : Type 0} (p : A → Bool) (ps : List (PartValue A)) (k at : ℕ) (part : PartValue A) → k < length ps → part ≡ get_or ps k part → suffix_len (λ x. not (p x)) (flat (drop (k + 1) (parts_next ps))) ≡ length (flat (drop (k + 1) (parts_next ps))) → LastIn (Some at) p part.next → LastAt (Some (record { slot = k; at = at })) p (parts_next ps)
LastAt-found p ps k at part h e back found =
    let long = length-map ps (λ part. part.next) in
    let here = part_next ps k part h e in
    let within : at < length (part_at (parts_next ps) k) = rw here found.0 in
    let slot : k < length (parts_next ps) = omega arith in
    (record { part = slot; within = within }, last_of p (parts_next ps) k at slot back within (rw here found.1))

pub none_from-part : {A : Type 0} (p : A → Bool) (ps : List (PartValue A)) (k : ℕ) (part : PartValue A) → k < length ps → part ≡ get_or ps k part → suffix_len (λ x. not (p x)) (flat (drop (k + 1) (parts_next ps))) ≡ length (flat (drop (k + 1) (parts_next ps))) → LastIn None p part.next → suffix_len (λ x. not (p x)) (flat (drop k (parts_next ps))) ≡ length (flat (drop k (parts_next ps)))
none_from-part p ps k part h e back none =
    let long = length-map ps (λ part. part.next) in
    none_from-more p (parts_next ps) k (omega arith) back (rw (part_next ps k part h e) none)
