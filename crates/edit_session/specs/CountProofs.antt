-- A group that has raised the counter of steps by nothing so far.
-- none_counted    nothing is at most the number of code points that depend on a change
-- counts_none     a counter that stays is what any group may leave
use Rattle.std.proofs.Common.{ℕ, List, [], Result, Ok, Err, refl, sym, arith, true≢false}
use Rattle.ucd_facts.specs.Facts.{Facts}
use Rattle.release_rows.specs.FileItems.{FileItem}
use Rattle.record_turns.specs.Turned.{CountsWithin}
use Rattle.edit_session.specs.Groups.{CountsAs, files_facts}
use Rattle.edit_session.specs.declared.apply_stop.Refused.{Refused}

pub none_counted : (F G : ℕ → Facts) (n : ℕ) → CountsWithin F G n n
none_counted F G n = (0, ([], record { rising = λ k lt. absurd (omega (arith, lt)); inside = λ c h. absurd (true≢false (sym h)); each = λ c h. absurd (true≢false (sym h)) }, omega arith), omega arith)

pub counts_none : (after : Result (List (List FileItem)) Refused) (F : ℕ → Facts) (n : ℕ) → CountsAs after F n n
counts_none (Ok files) F n = none_counted F (files_facts files) n
counts_none (Err refused) F n = refl
