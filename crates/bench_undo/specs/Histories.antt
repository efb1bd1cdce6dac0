-- The states of a history.
-- HistoryState               how many earlier states are kept at most, the items of the files, and those of the earlier states, the latest
--                            first
-- accepted h files           the state after an accepted group that leaves these files: the ones before it are the latest earlier state,
--                            and the oldest is dropped where there are too many
-- gone_back h files rest     the state after an undo, where these files are the latest earlier state and the rest are older
-- back_to h earlier          the state after an undo, where these are the earlier states; the same where there is none
-- undone h                   the state after an undo
-- AppliesIn result expected old new   what a group is answered and what it leaves: the files that are expected, and the code points
--                            whose records differ; or the rule that is expected and what was; what was if memory ran out
-- UndoesAs result earlier old new   what an undo is answered and what it leaves: the latest earlier state, and the code points whose
--                            records differ; nothing exactly if there is none; what was if memory ran out
-- UndoCounts earlier h old new   the counter rises by at most the number of code points that depend on the change to the latest earlier
--                            state, and not where there is none
-- IsSound files              a release keeps these files, and their rows are valid
-- AreSound h                 so it is of each earlier state
use Rattle.std.specs.Prelude.{◌≡◌, ℕ, List, [], ◌∷◌, None, take, Result, Ok, Err, All}
use Rattle.ucd_points.specs.declared.memory.Memory.{Memory as Lacking}
use Rattle.ucd_model.specs.Validity.{first_broken}
use Rattle.release_rows.specs.Releases.{AllAreKept, FileItem}
use Rattle.edit_session.specs.Groups.{CountsAs, changed, files_facts}
use Rattle.edit_session.specs.declared.accepted.Accepted.{Accepted}
use Rattle.edit_session.specs.declared.apply_stop.ApplyStop.{ApplyStop}
use Rattle.edit_session.specs.declared.apply_stop.ApplyStop.TheVariants.{Refused as Refuses, Memory}
use Rattle.edit_session.specs.declared.apply_stop.Refused.{Refused}
use Rattle.bench_undo.specs.declared.undone.Undone.{Undone}
use Rattle.bench_undo.specs.declared.undone.Undone.TheVariants.{Back, Nothing}

pub record HistoryState : Type 0 where
  pub depth : ℕ
  pub files : List (List FileItem)
  pub earlier : List (List (List FileItem))

abbrev pub accepted : HistoryState → List (List FileItem) → HistoryState
accepted h files = record { depth = h.depth; files = files; earlier = take h.depth (h.files ∷ h.earlier) }

abbrev pub gone_back : HistoryState → List (List FileItem) → List (List (List FileItem)) → HistoryState
gone_back h files rest = record { depth = h.depth; files = files; earlier = rest }

abbrev pub back_to : HistoryState → List (List (List FileItem)) → HistoryState
back_to h [] = h
back_to h (files ∷ rest) = gone_back h files rest

abbrev pub undone : HistoryState → HistoryState
undone h = back_to h h.earlier

abbrev pub AppliesIn : Result Accepted ApplyStop → Result (List (List FileItem)) Refused → HistoryState → HistoryState → Type 0
AppliesIn (Ok told) (Ok files) old new = (new ≡ accepted old files) × (told.changed ≡ changed (files_facts old.files) (files_facts files))
AppliesIn (Err (Refuses why)) (Err refused) old new = (why ≡ refused) × (new ≡ old)
AppliesIn (Err Memory) expected old new = new ≡ old
AppliesIn _ _ old new = ⊥

abbrev pub UndoesAs : Result Undone Lacking → List (List (List FileItem)) → HistoryState → HistoryState → Type 0
UndoesAs (Ok Nothing) [] old new = new ≡ old
UndoesAs (Ok (Back told)) (files ∷ rest) old new = (new ≡ gone_back old files rest) × (told.changed ≡ changed (files_facts old.files) (files_facts files))
UndoesAs (Err _) earlier old new = new ≡ old
UndoesAs _ _ old new = ⊥

abbrev pub UndoCounts : List (List (List FileItem)) → HistoryState → ℕ → ℕ → Type 0
UndoCounts [] h old new = new ≡ old
UndoCounts (files ∷ rest) h old new = CountsAs (Ok files) (files_facts h.files) old new

pub record IsSound (files : List (List FileItem)) : Type 0 where
  pub kept : AllAreKept files
  pub valid : first_broken (files_facts files) ≡ None

abbrev pub AreSound : HistoryState → Type 0
AreSound h = All IsSound h.earlier
