-- What a list of files holds after a file was put into it.
use Rattle.std.proofs.Common.{◌≡◌, ℕ, zero, suc, ◌<◌, Bool, true, false, not, cond, List, [], ◌∷◌, ◌++◌, length, set, None, Some, position, bytes_eq, ◌∙◌, ap, arith}
use Rattle.std.specs.List.{position_or_len}
use Rattle.std.proofs.lemmas.List.Sums.{prefix_len-le-length}
use Rattle.std.proofs.lemmas.Slice.Eq.{bytes_eq-Decides}
use Rattle.std.proofs.lemmas.Grind.{common_steps}
use Rattle.shelf_io.specs.declared.memory_files.File.{File}
use Rattle.shelf_io.specs.Folders.{held_at}
use Rattle.shelf_io.specs.Contents.{ReplacedAt}

-- whether a file has this path
abbrev pub at : List ℕ → File → Bool
at path file = bytes_eq file.path path

-- two texts with the same test against a third
same_test : (a b q : List ℕ) → bytes_eq a b ≡ true → bytes_eq a q ≡ bytes_eq b q
same_test a b q e = ap (λ x. bytes_eq x q) ((bytes_eq-Decides a b).0 e)

-- a text is not two different ones
one_test : (a b q : List ℕ) → bytes_eq a b ≡ false → bytes_eq a q ≡ true → bytes_eq b q ≡ false
one_test a b q e h = grind (arith, bytes_eq-Decides a b, bytes_eq-Decides a q, bytes_eq-Decides b q)

-- what is held after a file was put in the place of the first of its path
pub held_at-set : (fs : List File) (i : ℕ) (file : File) (q : List ℕ) → position_or_len (at file.path) fs ≡ i → i < length fs → held_at (set fs i file) q ≡ cond (bytes_eq file.path q) (Some file.bytes) (held_at fs q)
held_at-set [] i file q e h = absurd (omega arith)
held_at-set (f ∷ fs) zero file q e h = grind (arith, common_steps, same_test f.path file.path q)
held_at-set (f ∷ fs) (suc i) file q e h = grind (arith, common_steps, one_test f.path file.path q, held_at-set fs i file q)

-- what is held after a file was put at the end, where none had its path
pub held_at-append : (fs : List File) (file : File) (q : List ℕ) → position_or_len (at file.path) fs ≡ length fs → held_at (fs ++ file ∷ []) q ≡ cond (bytes_eq file.path q) (Some file.bytes) (held_at fs q)
held_at-append [] file q e = grind (arith, common_steps)
held_at-append (f ∷ fs) file q e = grind (arith, common_steps, one_test f.path file.path q, held_at-append fs file q)

-- the first place of a path, where there is one
place_is : (fs : List File) (path : List ℕ) (i : ℕ) → position (at path) fs ≡ Some i → (position_or_len (at path) fs ≡ i) × (i < length fs)
place_is fs path i e = grind (arith, common_steps)

-- a path without a place has none up to the end
no_place_is : (fs : List File) (path : List ℕ) → position (at path) fs ≡ None → position_or_len (at path) fs ≡ length fs
no_place_is fs path e = grind (arith, common_steps, prefix_len-le-length (λ file. not (at path file)) fs)

-- a file was put in the place of the first of its path
pub set-ReplacedAt : (fs : List File) (i : ℕ) (file : File) → position (at file.path) fs ≡ Some i → ReplacedAt file.path file.bytes (held_at fs) (held_at (set fs i file))
set-ReplacedAt fs i file e =
    let is = place_is fs file.path i e in (
      held_at-set fs i file file.path is.0 is.1 ∙ grind (arith, bytes_eq-Decides file.path file.path),
      λ q ne. held_at-set fs i file q is.0 is.1 ∙ grind (arith, bytes_eq-Decides file.path q),
    )

-- a file was put at the end, where none had its path
pub append-ReplacedAt : (fs : List File) (file : File) → position (at file.path) fs ≡ None → ReplacedAt file.path file.bytes (held_at fs) (held_at (fs ++ file ∷ []))
append-ReplacedAt fs file e =
    let is = no_place_is fs file.path e in (
      held_at-append fs file file.path is ∙ grind (arith, bytes_eq-Decides file.path file.path),
      λ q ne. held_at-append fs file q is ∙ grind (arith, bytes_eq-Decides file.path q),
    )
