-- How many bytes a character takes.
use Rattle.std.proofs.Common.{◌≤◌, List, [], ◌∷◌, ℕ, length, arith}
use Rattle.bstr.specs.Utf8.{decoded}
use Rattle.bstr.proofs.lemmas.PieceLemmas.{size-within, piece-bounds}

pub at_most_four : (bs : List ℕ) → (decoded bs).size ≤ 4
at_most_four [] = omega arith
at_most_four (b ∷ bs) = (piece-bounds (b ∷ bs) (omega arith)).1

pub at_most_all : (bs : List ℕ) → (decoded bs).size ≤ length bs
at_most_all bs = size-within bs
