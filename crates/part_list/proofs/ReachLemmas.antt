-- Entries within a reach.
use Rattle.std.proofs.Common.{◌≡◌, ℕ, Bool, not, false, List, [], ◌∷◌, length, refl, ap, ◌∙◌, arith}
use Rattle.std.specs.List.{All, position_or_len, suffix_len}
use Rattle.std.proofs.lemmas.List.Elements.{All-weaker, All-append, All-take, All-drop}
use Rattle.std.proofs.lemmas.List.Sums.{position_or_len_is, suffix_len_is}
use Rattle.part_list.specs.declared.reach.Reach.{Reach}
use Rattle.part_list.specs.declared.entry.Entry.{Entry}
use Rattle.part_list.specs.Parts.{spliced}
use Rattle.part_list.specs.Reaches.{IsWithin, IsWider, Skips}

pub within_wider : {A : Type 0} (old new : Reach) → IsWider old new → (entry : Entry A) → IsWithin old entry → IsWithin new entry
within_wider old new w entry h =
    let least = w.least in
    let most = w.most in
    let from = h.least in
    let code = h.code in
    let last = h.last in
    let least_tag = w.least_tag in
    let most_tag = w.most_tag in
    let from_tag = h.least_tag in
    let to_tag = h.most_tag in
    record { least = omega arith; code = omega arith; last = omega arith; least_tag = omega arith; most_tag = omega arith }

pub all_wider : {A : Type 0} (old new : Reach) → IsWider old new → (xs : List (Entry A)) → All (IsWithin old) xs → All (IsWithin new) xs
all_wider old new w xs = All-weaker (IsWithin old) (IsWithin new) (within_wider old new w) xs

pub wider_on : (a b c : Reach) → IsWider a b → IsWider b c → IsWider a c
wider_on a b c p q =
    let first = p.least in
    let second = q.least in
    let third = p.most in
    let fourth = q.most in
    let fifth = p.least_tag in
    let sixth = q.least_tag in
    let seventh = p.most_tag in
    let eighth = q.most_tag in
    record { least = omega arith; most = omega arith; least_tag = omega arith; most_tag = omega arith }

pub within_spliced : {A : Type 0} (reach : Reach) (xs : List (Entry A)) (at n : ℕ) (ys : List (Entry A)) → All (IsWithin reach) xs → All (IsWithin reach) ys → All (IsWithin reach) (spliced xs at n ys)
within_spliced reach xs at n ys old new =
    All-append (IsWithin reach) _ _ (All-append (IsWithin reach) _ _ (All-take (IsWithin reach) at xs old) new) (All-drop (IsWithin reach) _ xs old)

pub skipped : {A : Type 0} (p : Entry A → Bool) (reach : Reach) (xs : List (Entry A)) → Skips p reach → All (IsWithin reach) xs → All (λ x. p x ≡ false) xs
skipped p reach xs skips within = All-weaker (IsWithin reach) (λ x. p x ≡ false) skips xs within

pub none_first : {A : Type 0} (p : A → Bool) (xs : List A) → All (λ x. p x ≡ false) xs → position_or_len p xs ≡ length xs
none_first p [] h = refl
none_first p (x ∷ xs) h = position_or_len_is p (x ∷ xs) (length (x ∷ xs)) x (omega arith) (λ k lt. h k x lt) (λ lt. absurd (omega arith))

pub none_last : {A : Type 0} (p : A → Bool) (xs : List A) → All (λ x. p x ≡ false) xs → suffix_len (λ x. not (p x)) xs ≡ length xs
none_last p [] h = refl
none_last p (x ∷ xs) h = suffix_len_is (λ y. not (p y)) (x ∷ xs) 0 x (omega arith) (λ k le lt. ap not (h k x lt)) (λ lt. absurd (omega arith)) ∙ omega arith
