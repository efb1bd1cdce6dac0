-- Of a file no more is read than decides whether it is too long, and what it holds where it is not.
use Rattle.std.proofs.Common.{◌≡◌, ℕ, zero, suc, ◌+◌, true, List, [], ◌∷◌, length, take, map, nat_lt, if◌then◌else◌, None, refl, arith, inl, inr, slice_index_or, length-take, take_all}
use Rattle.std.proofs.lemmas.Bool.{cases_lt, lt-ltb}
use Rattle.ucd_points.specs.Limits.{file_limit}
use Rattle.run_endings.specs.Endings.{Seen}
use Rattle.run_endings.specs.Reading.{cut}

-- bytes that are cut behind the limit are too long exactly where the whole ones are
pub cut_decides : {A : Type 0} (bytes : List ℕ) (long : A) (f : List ℕ → A)
    → (if nat_lt file_limit (length (take (file_limit + 1) bytes)) then long else f (take (file_limit + 1) bytes)) ≡ (if nat_lt file_limit (length bytes) then long else f bytes)
cut_decides bytes long f = elim (cases_lt file_limit (length bytes)) [
  | inl above ↦
      let cut_long : nat_lt file_limit (length (take (file_limit + 1) bytes)) ≡ true = lt-ltb file_limit (length (take (file_limit + 1) bytes)) (omega (arith, length-take (file_limit + 1) bytes)) in
      let is_long : nat_lt file_limit (length bytes) ≡ true = lt-ltb file_limit (length bytes) above in
      rw (cut_long, is_long) refl
  | inr below ↦ rw (take_all (file_limit + 1) bytes (omega arith)) refl
]

-- what is cut at a place is what was seen there, cut
pub held_cut : (seen : Seen) (at : ℕ) → slice_index_or (map cut seen) at None ≡ cut (slice_index_or seen at None)
held_cut [] at = refl
held_cut (held ∷ seen) zero = refl
held_cut (held ∷ seen) (suc at) = held_cut seen at
