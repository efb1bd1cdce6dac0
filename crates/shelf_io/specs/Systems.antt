-- Words on what a system has at its paths, and on a shelf and a sink over it.
--   Entry             what is at a path: nothing, a folder, a file of these bytes, one that the system was asked to
--                     keep, a file that was created and is not closed, or something else, as a file that may not be opened
--   IsKept entry      it is a file that the system was asked to keep
--   file_of entry     the bytes of a file, None of all else
--   files_of at       the bytes of the file at each path, where a file is there
--   SameEntries old new      what is at every path is what was there
--   TakesNone answer buf P   P, where a write answered an error, or took none of some bytes
--   TakesSome answer buf P   P, where a write took some of the bytes, or there were none
--   folder_of path    what stands in front of the last slash of a path, None where it has no slash
--   DiskView S        a DiskShelf as its callers see it: its system, and its counts of faults
--   OutView W         an OutSink as its callers see it: its writer, and its count of faults
use Rattle.std.specs.Prelude.{ℕ, ◌≡◌, ◌<◌, List, ⊤, Option, None, Some, Result, IfOk, MatchResult, length, option_map}
use Rattle.std.specs.Path.{slash, rsplit_once}

pub data Entry : Type 0 where
  Nothing : Entry
  Folder : Entry
  File : (bytes : List ℕ) → Entry
  Kept : (bytes : List ℕ) → Entry
  Created : Entry
  Other : Entry

abbrev pub file_of : Entry → Option (List ℕ)
file_of Nothing = None
file_of Folder = None
file_of (File bytes) = Some bytes
file_of (Kept bytes) = Some bytes
file_of Created = None
file_of Other = None

abbrev pub IsKept : Entry → Type 0
IsKept Nothing = ⊥
IsKept Folder = ⊥
IsKept (File bytes) = ⊥
IsKept (Kept bytes) = ⊤
IsKept Created = ⊥
IsKept Other = ⊥

abbrev pub files_of : (List ℕ → Entry) → List ℕ → Option (List ℕ)
files_of at path = file_of (at path)

abbrev pub SameEntries : (List ℕ → Entry) → (List ℕ → Entry) → Type 0
SameEntries old new = (q : List ℕ) → new q ≡ old q

abbrev pub TakesNone : {E : Type 0} → Result ℕ E → List ℕ → Type 0 → Type 0
TakesNone answer buf P = MatchResult answer (λ n. n ≡ 0 → 0 < length buf → P) (λ _. P)

abbrev pub TakesSome : {E : Type 0} → Result ℕ E → List ℕ → Type 0 → Type 0
TakesSome answer buf P = IfOk answer (λ n. (n ≡ 0 → length buf ≡ 0) → P)

abbrev pub folder_of : List ℕ → Option (List ℕ)
folder_of path = option_map (λ split. split.0) (rsplit_once slash path)

pub record DiskView (S : Type 0) : Type 0 where
  pub system : S
  pub read_faults : ℕ
  pub write_faults : ℕ

pub record OutView (W : Type 0) : Type 0 where
  pub writer : W
  pub faults : ℕ
