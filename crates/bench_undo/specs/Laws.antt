-- Laws of histories.
-- UndoRestores       an undo after an accepted group leaves the files as they were before the group, and of the earlier states all but an
--                    oldest one for which there was no room
-- SamePointsChange   the code points whose records differ are the same both ways
use Rattle.std.specs.Prelude.{◌≡◌, ℕ, ◌-◌, ◌≤◌, List, take}
use Rattle.ucd_facts.specs.Facts.{Facts}
use Rattle.release_rows.specs.FileItems.{FileItem}
use Rattle.edit_session.specs.Groups.{changed}
use Rattle.bench_undo.specs.Histories.{HistoryState, accepted, undone}

abbrev pub UndoRestores : Type 0
UndoRestores = (h : HistoryState) (files : List (List FileItem)) → 1 ≤ h.depth → undone (accepted h files) ≡ record { depth = h.depth; files = h.files; earlier = take (h.depth - 1) h.earlier }

abbrev pub SamePointsChange : Type 0
SamePointsChange = (F G : ℕ → Facts) → changed F G ≡ changed G F
