-- The lines of a series, one more at a time.
-- range_more n         the numbers below n + 1 are those below n, and n behind them
-- series_none line     no number has no line
-- series_more line n   one number more has one line more
use Rattle.std.proofs.Common.{◌≡◌, ◌∙◌, ℕ, ◌+◌, List, [], ◌∷◌, ◌++◌, refl, sym, ap, arith, append-nil, map-id}
use Rattle.std.specs.List.{range_with_len, flat_map}
use Rattle.std.proofs.lemmas.List.Concat.{flat_map-append}
use Rattle.std.proofs.lemmas.List.FromFn.{map-range_with_len_more}
use Rattle.release_maker.specs.MadeTexts.{series, line_text}

range_more : (n : ℕ) → range_with_len 0 (n + 1) ≡ range_with_len 0 n ++ n ∷ []
range_more n =
    sym (map-id (range_with_len 0 (n + 1))) ∙ map-range_with_len_more (λ k. k) 0 n n (omega arith)
    ∙ ap (λ (xs : List ℕ). xs ++ n ∷ []) (map-id (range_with_len 0 n))

pub series_none : (line : ℕ → List ℕ) → series line 0 ≡ []
unfolding series
series_none line = refl

pub series_more : (line : ℕ → List ℕ) (n : ℕ) → series line (n + 1) ≡ series line n ++ line_text (line n)
unfolding series
series_more line n =
    let f : ℕ → List ℕ = λ i. line_text (line i) in
    ap (flat_map f) (range_more n) ∙ flat_map-append f (range_with_len 0 n) (n ∷ [])
    ∙ ap (λ (t : List ℕ). flat_map f (range_with_len 0 n) ++ t) (append-nil (f n))
