-- Words on the answer of a read.
--   Reads answer held most into      the answer is Found where bytes are held, and the first `most` of
--                                    them were read, and Absent where none are; no word of a stop
--   OnFound answer P                 P, where the answer is Found
--   OnAbsent answer P                P, where the answer is Absent
--   OnReadFailed answer P            P, where the answer is that the read failed
--   has_failed answer                whether the read failed
--   failed_after answer path last    the path of the last failed read, after this answer at this path
--   FailsExactly answer fails        the read failed where `fails`, and nowhere else; no word of Memory
use Rattle.std.specs.Prelude.{ℕ, ◌≡◌, Bool, true, false, List, take, Option, None, Some, Result, Ok, Err, ⊤}
use Rattle.shelf_io.specs.declared.shelf.Found.{Found}
use Rattle.shelf_io.specs.declared.shelf.Found.TheVariants.{Found as There, Absent}
use Rattle.shelf_io.specs.declared.shelf.ReadStop.{ReadStop}
use Rattle.shelf_io.specs.declared.shelf.ReadStop.TheVariants.{Failed, Memory}

abbrev pub Reads : Result Found ReadStop → Option (List ℕ) → ℕ → List ℕ → Type 0
Reads (Ok There) (Some bytes) most into = into ≡ take most bytes
Reads (Ok There) None most into = ⊥
Reads (Ok Absent) (Some bytes) most into = ⊥
Reads (Ok Absent) None most into = ⊤
Reads (Err _) held most into = ⊤

abbrev pub OnFound : Result Found ReadStop → Type 0 → Type 0
OnFound (Ok There) P = P
OnFound (Ok Absent) P = ⊤
OnFound (Err _) P = ⊤

abbrev pub OnAbsent : Result Found ReadStop → Type 0 → Type 0
OnAbsent (Ok There) P = ⊤
OnAbsent (Ok Absent) P = P
OnAbsent (Err _) P = ⊤

abbrev pub OnReadFailed : Result Found ReadStop → Type 0 → Type 0
OnReadFailed (Ok _) P = ⊤
OnReadFailed (Err Failed) P = P
OnReadFailed (Err Memory) P = ⊤

abbrev pub has_failed : Result Found ReadStop → Bool
has_failed (Ok _) = false
has_failed (Err Failed) = true
has_failed (Err Memory) = false

abbrev pub failed_after : Result Found ReadStop → List ℕ → List ℕ → List ℕ
failed_after (Ok _) path last = last
failed_after (Err Failed) path last = path
failed_after (Err Memory) path last = last

abbrev pub FailsExactly : Result Found ReadStop → Bool → Type 0
FailsExactly (Ok _) fails = fails ≡ false
FailsExactly (Err Failed) fails = fails ≡ true
FailsExactly (Err Memory) fails = ⊤
