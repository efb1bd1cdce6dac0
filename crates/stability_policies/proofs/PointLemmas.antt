-- Breaks of one policy, code point after code point.
use Rattle.std.proofs.Common.{◌≡◌, ℕ, zero, suc, ◌+◌, ◌-◌, ◌<◌, ◌≤◌, Bool, true, false, cond, List, [], ◌∷◌, ◌++◌, map, filter, sym, ap, ◌∙◌, arith}
use Rattle.std.specs.List.{range_with_len}
use Rattle.std.proofs.lemmas.List.{append-nil, append_assoc, map-append}
use Rattle.ucd_points.specs.PlainProofs.{range_more, filter_more, filter_none}

filter_all : (p : ℕ → Bool) (n k : ℕ) → ((c : ℕ) → n ≤ c → c < n + k → p c ≡ true) → filter p (range_with_len 0 (n + k)) ≡ filter p (range_with_len 0 n) ++ range_with_len n k
filter_all p n zero h =
    let end : n + zero ≡ n = omega arith in
    ap (λ m. filter p (range_with_len 0 m)) end ∙ sym (append-nil (filter p (range_with_len 0 n)))
filter_all p n (suc k) h =
    let end : n + suc k ≡ n + k + 1 = omega arith in
    let next : k + 1 ≡ suc k = omega arith in
    ap (λ m. filter p (range_with_len 0 m)) end ∙ filter_more p (n + k)
    ∙ ap (λ t. filter p (range_with_len 0 (n + k)) ++ cond t ((n + k) ∷ []) []) (h (n + k) (omega arith) (omega arith))
    ∙ ap (λ (xs : List ℕ). xs ++ (n + k) ∷ []) (filter_all p n k (λ c from lt. h c from (omega (arith, lt))))
    ∙ append_assoc (filter p (range_with_len 0 n)) (range_with_len n k) ((n + k) ∷ [])
    ∙ ap (λ (xs : List ℕ). filter p (range_with_len 0 n) ++ xs) (sym (range_more n k) ∙ ap (range_with_len n) next)

-- one test tells all code points from n to before e
pub filter_span : (p : ℕ → Bool) (n e : ℕ) (b : Bool) → n ≤ e → ((c : ℕ) → n ≤ c → c < e → p c ≡ b) → filter p (range_with_len 0 e) ≡ filter p (range_with_len 0 n) ++ cond b (range_with_len n (e - n)) []
filter_span p n e true le h =
    let end : n + (e - n) ≡ e = omega arith in
    ap (λ m. filter p (range_with_len 0 m)) (sym end) ∙ filter_all p n (e - n) (λ c from lt. h c from (omega arith))
filter_span p n e false le h =
    let end : n + (e - n) ≡ e = omega arith in
    ap (λ m. filter p (range_with_len 0 m)) (sym end) ∙ filter_none p n (e - n) (λ c from lt. h c from (omega arith)) ∙ sym (append-nil (filter p (range_with_len 0 n)))

module _ {B : Type 0} (p : ℕ → Bool) (f : ℕ → B) (before : List B) where
  -- what was broken before n, and all code points up to e, or none of them
  pub more_breaks : (xs ys : List B) (n e : ℕ) (b : Bool) → n ≤ e → ((c : ℕ) → n ≤ c → c < e → p c ≡ b) → xs ≡ before ++ map f (filter p (range_with_len 0 n)) → ys ≡ xs ++ map f (cond b (range_with_len n (e - n)) [])
      → ys ≡ before ++ map f (filter p (range_with_len 0 e))
  more_breaks xs ys n e b le h is more =
      more ∙ ap (λ (zs : List B). zs ++ map f (cond b (range_with_len n (e - n)) [])) is
      ∙ append_assoc before (map f (filter p (range_with_len 0 n))) (map f (cond b (range_with_len n (e - n)) []))
      ∙ ap (λ (zs : List B). before ++ zs) (sym (map-append f (filter p (range_with_len 0 n)) (cond b (range_with_len n (e - n)) [])))
      ∙ ap (λ (zs : List ℕ). before ++ map f zs) (sym (filter_span p n e b le h))

module _ {B : Type 0} (f : ℕ → B) (before : List B) where
  -- one more of the code points from first on
  pub point_more : (xs ys : List B) (first n : ℕ) → first ≤ n → xs ≡ before ++ map f (range_with_len first (n - first)) → ys ≡ xs ++ f n ∷ [] → ys ≡ before ++ map f (range_with_len first (n + 1 - first))
  point_more xs ys first n le is more =
      let next : n - first + 1 ≡ n + 1 - first = omega arith in
      let last : first + (n - first) ≡ n = omega arith in
      more ∙ ap (λ (zs : List B). zs ++ f n ∷ []) is ∙ append_assoc before (map f (range_with_len first (n - first))) (f n ∷ [])
      ∙ ap (λ k. before ++ (map f (range_with_len first (n - first)) ++ f k ∷ [])) (sym last)
      ∙ ap (λ (zs : List B). before ++ zs) (sym (map-append f (range_with_len first (n - first)) ((first + (n - first)) ∷ [])))
      ∙ ap (λ (zs : List ℕ). before ++ map f zs) (sym (range_more first (n - first)) ∙ ap (range_with_len first) next)
