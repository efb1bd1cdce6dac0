-- Edits of one part, seen on the whole list.
use Rattle.std.proofs.Common.{◌≡◌, ℕ, zero, suc, ◌+◌, ◌<◌, ◌≤◌, Bool, true, List, [], ◌∷◌, ◌++◌, length, take, drop, map, set, get_or, cond, nat_lt, zero-add, refl, sym, ap, subst, ◌∙◌, arith, insert, filter}
use Rattle.std.proofs.Math.Seq.{take-append-add, drop-append-add}
use Rattle.std.proofs.lemmas.List.{append-nil, append_assoc, length-append, length-map, take-append-le, drop-append-le, set_split, map-set, get_or-map, length-take-le, length-drop, take_more, take_more_set, drop-set-lt}
use Rattle.std.proofs.lemmas.Bool.Decides.{nat_tests}
use Rattle.std.proofs.lemmas.List.Edits.{map_over_more, get_or-insert_below}
use Rattle.std.proofs.lemmas.List.Concat.{flat_map-append, get_or-flat_map}
use Rattle.ucd_points.specs.PlainProofs.{map_insert}
use Rattle.part_list.specs.SpotLaws.{around}
use Rattle.part_list.specs.Parts.{flat, part_at, before, spliced}
use Rattle.part_list.specs.PartValues.{PartValue, parts_now, parts_next, committed, discarded, has_entries}

spliced-front : {A : Type 0} (p f : List A) (at n : ℕ) (ys : List A) → at + n ≤ length p → spliced p at n ys ++ f ≡ spliced (p ++ f) at n ys
spliced-front p f at n ys h =
    rw (take-append-le at p f (omega arith), drop-append-le (at + n) p f h) (append_assoc (take at p ++ ys) (drop (at + n) p) f)

spliced-behind : {A : Type 0} (p f : List A) (m at n : ℕ) (ys : List A) → m ≡ length p + at → p ++ spliced f at n ys ≡ spliced (p ++ f) m n ys
spliced-behind p f m at n ys e =
    let behind : m + n ≡ length p + (at + n) = omega arith in
    rw (behind, e)
    (rw (take-append-add p f at, drop-append-add p f (at + n), append_assoc p (take at f) ys, append_assoc p (take at f ++ ys) (drop (at + n) f)) refl)

-- entries put into one part are put into the list
pub flat-spliced : {A : Type 0} (xs : List (List A)) (k at n : ℕ) (ys : List A) → k < length xs → at + n ≤ length (part_at xs k) → flat (set xs k (spliced (part_at xs k) at n ys)) ≡ spliced (flat xs) (before xs k + at) n ys
flat-spliced [] k at n ys lt h = absurd (omega arith)
flat-spliced (p ∷ xs) zero at n ys lt h = rw (zero-add at) (spliced-front p (flat xs) at n ys h)
flat-spliced (p ∷ xs) (suc k) at n ys lt h =
    ap (λ rest. p ++ rest) (flat-spliced xs k at n ys (omega arith) h)
    ∙ spliced-behind p (flat xs) (before (p ∷ xs) (suc k) + at) (before xs k + at) n ys (let e = length-append p (flat (take k xs)) in omega arith)

-- one more entry at the end of the last part
pub flat-push_last : {A : Type 0} (xs : List (List A)) (k : ℕ) (e : A) → suc k ≡ length xs → flat (set xs k (part_at xs k ++ e ∷ [])) ≡ flat xs ++ e ∷ []
flat-push_last [] k e h = absurd (omega arith)
flat-push_last (p ∷ []) zero e h = append-nil (p ++ e ∷ []) ∙ ap (λ q. q ++ e ∷ []) (sym (append-nil p))
flat-push_last (p ∷ q ∷ xs) zero e h = absurd (omega arith)
flat-push_last (p ∷ xs) (suc k) e h = ap (λ rest. p ++ rest) (flat-push_last xs k e (omega arith)) ∙ sym (append_assoc p (flat xs) (e ∷ []))

-- one more part at the end
pub flat-push : {A : Type 0} (xs : List (List A)) (y : List A) → flat (xs ++ y ∷ []) ≡ flat xs ++ y
flat-push xs y = flat_map-append (λ part. part) xs (y ∷ []) ∙ ap (λ q. flat xs ++ q) (append-nil y)

-- a part that is cut in two
pub flat-cut : {A : Type 0} (xs : List (List A)) (k : ℕ) (a b : List A) → k < length xs → a ++ b ≡ part_at xs k → flat (set (insert xs (suc k) b) k a) ≡ flat xs
flat-cut [] k a b h e = absurd (omega arith)
flat-cut (p ∷ xs) zero a b h e = sym (append_assoc a b (flat xs)) ∙ ap (λ q. q ++ flat xs) e
flat-cut (p ∷ xs) (suc k) a b h e = ap (λ rest. p ++ rest) (flat-cut xs k a b (omega arith) e)

-- the same of one version of the parts
pub flat-cut_by : {A B : Type 0} (f : A → List B) (xs : List A) (k : ℕ) (v w : A) → k < length xs → f w ++ f v ≡ part_at (map f xs) k → flat (map f (set (insert xs (suc k) v) k w)) ≡ flat (map f xs)
flat-cut_by f xs k v w h e =
    rw (map-set f (insert xs (suc k) v) k w, map_insert f xs (suc k) v)
    (flat-cut (map f xs) k (f w) (f v) (let n = length-map xs f in omega arith) e)

-- the entry at a place
pub get_or-flat : {A : Type 0} (xs : List (List A)) (k at : ℕ) (d : A) → k < length xs → at < length (part_at xs k) → get_or (flat xs) (before xs k + at) d ≡ get_or (part_at xs k) at d
get_or-flat xs k at d lt h = get_or-flat_map (λ part. part) xs k at [] d lt h

pub part_by : {A B : Type 0} (f : A → List B) (ps : List A) (k : ℕ) (part : A) → k < length ps → part ≡ get_or ps k part → part_at (map f ps) k ≡ f part
part_by f ps k part h e = get_or-map f ps k part [] h ∙ ap f (sym e)

-- what is next of a part
pub part_next : {A : Type 0} (ps : List (PartValue A)) (k : ℕ) (part : PartValue A) → k < length ps → part ≡ get_or ps k part → part_at (parts_next ps) k ≡ part.next
part_next ps k part h e = part_by (λ p. p.next) ps k part h e

-- the parts up to one, and that one
pub flat-take_more : {A : Type 0} (xs : List (List A)) (k : ℕ) → k < length xs → flat (take (k + 1) xs) ≡ flat (take k xs) ++ part_at xs k
flat-take_more xs k h = rw (take_more xs k [] h) (flat-push (take k xs) (part_at xs k))

pub parts_now-committed : {A : Type 0} (ps : List (PartValue A)) → parts_now (map committed ps) ≡ parts_next ps
parts_now-committed [] = refl
parts_now-committed (p ∷ ps) = ap (λ rest. p.next ∷ rest) (parts_now-committed ps)

pub parts_next-committed : {A : Type 0} (ps : List (PartValue A)) → parts_next (map committed ps) ≡ parts_next ps
parts_next-committed [] = refl
parts_next-committed (p ∷ ps) = ap (λ rest. p.next ∷ rest) (parts_next-committed ps)

pub parts_now-discarded : {A : Type 0} (ps : List (PartValue A)) → parts_now (map discarded ps) ≡ parts_now ps
parts_now-discarded [] = refl
parts_now-discarded (p ∷ ps) = ap (λ rest. p.now ∷ rest) (parts_now-discarded ps)

pub parts_next-discarded : {A : Type 0} (ps : List (PartValue A)) → parts_next (map discarded ps) ≡ parts_now ps
parts_next-discarded [] = refl
parts_next-discarded (p ∷ ps) = ap (λ rest. p.now ∷ rest) (parts_next-discarded ps)

kept-now_by : {A : Type 0} (now next : List A) (edited : Bool) (ps : List (PartValue A)) → flat (parts_now (cond (has_entries (record { now = now; next = next; edited = edited })) ((record { now = now; next = next; edited = edited }) ∷ ps) ps)) ≡ now ++ flat (parts_now ps)
kept-now_by [] [] edited ps = refl
kept-now_by [] (y ∷ next) edited ps =
    let some : nat_lt 0 (length (y ∷ next)) ≡ true = grind (arith, nat_tests) in
    rw some refl
kept-now_by (x ∷ now) next edited ps =
    let some : nat_lt 0 (length (x ∷ now)) ≡ true = grind (arith, nat_tests) in
    rw some refl

kept-now : {A : Type 0} (p : PartValue A) (ps : List (PartValue A)) → flat (parts_now (cond (has_entries p) (p ∷ ps) ps)) ≡ p.now ++ flat (parts_now ps)
kept-now p ps = kept-now_by p.now p.next p.edited ps

kept-next_by : {A : Type 0} (now next : List A) (edited : Bool) (ps : List (PartValue A)) → flat (parts_next (cond (has_entries (record { now = now; next = next; edited = edited })) ((record { now = now; next = next; edited = edited }) ∷ ps) ps)) ≡ next ++ flat (parts_next ps)
kept-next_by [] [] edited ps = refl
kept-next_by [] (y ∷ next) edited ps =
    let some : nat_lt 0 (length (y ∷ next)) ≡ true = grind (arith, nat_tests) in
    rw some refl
kept-next_by (x ∷ now) next edited ps =
    let some : nat_lt 0 (length (x ∷ now)) ≡ true = grind (arith, nat_tests) in
    rw some refl

kept-next : {A : Type 0} (p : PartValue A) (ps : List (PartValue A)) → flat (parts_next (cond (has_entries p) (p ∷ ps) ps)) ≡ p.next ++ flat (parts_next ps)
kept-next p ps = kept-next_by p.now p.next p.edited ps

-- parts without entries change nothing
pub flat-kept_now : {A : Type 0} (ps : List (PartValue A)) → flat (parts_now (filter has_entries ps)) ≡ flat (parts_now ps)
flat-kept_now [] = refl
flat-kept_now (p ∷ ps) = kept-now p (filter has_entries ps) ∙ ap (λ rest. p.now ++ rest) (flat-kept_now ps)

pub flat-kept_next : {A : Type 0} (ps : List (PartValue A)) → flat (parts_next (filter has_entries ps)) ≡ flat (parts_next ps)
flat-kept_next [] = refl
flat-kept_next (p ∷ ps) = kept-next p (filter has_entries ps) ∙ ap (λ rest. p.next ++ rest) (flat-kept_next ps)

-- one more part is done
pub more_done : {P : Type 0} (f : P → P) (xs ys : List P) (k : ℕ) (x new : P) → ys ≡ map f (take k xs) ++ drop k xs → k ≤ length xs → k < length ys → x ≡ get_or ys k x → new ≡ f x → (k < length xs) × (set ys k new ≡ map f (take (k + 1) xs) ++ drop (k + 1) xs)
more_done f xs ys k x new so_far le lt read is =
    let first = length-append (map f (take k xs)) (drop k xs) in
    let second = length-map (take k xs) f in
    let third = length-take-le k xs le in
    let fourth = length-drop k xs in
    let whole = ap length so_far in
    let within : k < length xs = omega arith in
    (within, rw is (map_over_more f xs ys k x within so_far read))

-- an entry at the end of the last part
pub parts-push : {A B : Type 0} (f : A → List B) (ps : List A) (k : ℕ) (part new : A) (e : B) → k + 1 ≡ length ps → part ≡ get_or ps k part → f new ≡ f part ++ e ∷ [] → flat (map f (set ps k new)) ≡ flat (map f ps) ++ e ∷ []
parts-push f ps k part new e last read is =
    let long = length-map ps f in
    let here : part_at (map f ps) k ≡ f part = part_by f ps k part (omega arith) read in
    rw (map-set f ps k new, is, sym here) (flat-push_last (map f ps) k e (omega arith))

-- entries in the place of others
pub parts-spliced : {A B : Type 0} (f : A → List B) (ps : List A) (k at n : ℕ) (ys : List B) (part new : A) → k < length ps → part ≡ get_or ps k part → at + n ≤ length (part_at (map f ps) k) → f new ≡ spliced (f part) at n ys → flat (map f (set ps k new)) ≡ spliced (flat (map f ps)) (before (map f ps) k + at) n ys
parts-spliced f ps k at n ys part new h read within is =
    let long = length-map ps f in
    let here : part_at (map f ps) k ≡ f part = part_by f ps k part h read in
    rw (map-set f ps k new, is, sym here) (flat-spliced (map f ps) k at n ys (omega arith) within)

-- a part whose second half stands in a part of its own
pub parts-cut : {A B : Type 0} (f : A → List B) (ps qs : List A) (k : ℕ) (behind part new : A) → k < length ps → qs ≡ insert ps (k + 1) behind → part ≡ get_or qs k part → (f part ≡ part_at (map f ps) k → f new ++ f behind ≡ part_at (map f ps) k) → flat (map f (set qs k new)) ≡ flat (map f ps)
parts-cut f ps qs k behind part new h e read same =
    let next : k + 1 ≡ suc k = omega arith in
    let old : part ≡ get_or ps k part = subst (λ xs. part ≡ get_or xs k part) e read ∙ get_or-insert_below ps (k + 1) behind part k (omega arith) (omega arith) in
    rw (e, next) (flat-cut_by f ps k behind new h (same (sym (part_by f ps k part h old))))

place-lt : {A : Type 0} (xs : List (List A)) (k at : ℕ) → k < length xs → at < length (part_at xs k) → before xs k + at < length (flat xs)
place-lt xs k at h within =
    let first = length-append (flat (take k xs)) (part_at xs k ++ flat (drop (k + 1) xs)) in
    let second = length-append (part_at xs k) (flat (drop (k + 1) xs)) in
    rw (around xs k h) (omega arith)

spliced-one : {A : Type 0} (xs : List A) (at : ℕ) (x : A) → at < length xs → spliced xs at 1 (x ∷ []) ≡ set xs at x
spliced-one xs at x h =
    let next : at + 1 ≡ suc at = omega arith in
    rw (next, append_assoc (take at xs) (x ∷ []) (drop (suc at) xs)) (sym (set_split xs at x h))

-- an entry in the place of one, and in that of one with another behind it
pub replaced : {A : Type 0} (xs : List (List A)) (k at : ℕ) (x : A) → k < length xs → at < length (part_at xs k) → spliced (flat xs) (before xs k + at) 1 (x ∷ []) ≡ set (flat xs) (before xs k + at) x
replaced xs k at x h within = spliced-one (flat xs) (before xs k + at) x (place-lt xs k at h within)

spliced-two : {A : Type 0} (xs : List A) (at : ℕ) (x y : A) → at < length xs → spliced xs at 1 (x ∷ y ∷ []) ≡ insert (set xs at x) (at + 1) y
spliced-two xs at x y h =
    rw (take_more_set xs at x h, drop-set-lt (at + 1) xs at x (omega arith), append_assoc (take at xs) (x ∷ []) (y ∷ drop (at + 1) xs), append_assoc (take at xs) (x ∷ y ∷ []) (drop (at + 1) xs)) refl

pub replaced_and_inserted : {A : Type 0} (xs : List (List A)) (k at : ℕ) (x y : A) → k < length xs → at < length (part_at xs k) → spliced (flat xs) (before xs k + at) 1 (x ∷ y ∷ []) ≡ insert (set (flat xs) (before xs k + at) x) (before xs k + at + 1) y
replaced_and_inserted xs k at x y h within = spliced-two (flat xs) (before xs k + at) x y (place-lt xs k at h within)
