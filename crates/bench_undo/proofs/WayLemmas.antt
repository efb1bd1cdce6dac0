-- Ways back, one behind the other.
use Rattle.std.proofs.Common.{◌≡◌, ℕ, zero, suc, ◌<◌, List, [], ◌∷◌, length, take, drop, get_or, Result, Ok, Err, refl, sym, ap, subst, ◌∙◌, arith, All}
use Rattle.std.proofs.lemmas.List.Elements.{All-cons, All-nil}
use Rattle.release_rows.specs.Patches.{SpliceItems, back}
use Rattle.release_rows.specs.Releases.{ReleaseItems, FileItem}
use Rattle.edit_session.specs.Groups.{AppliesAs, CountsAs, changed, files_facts}
use Rattle.edit_session.specs.Reverts.{Keeps, RevertsAs}
use Rattle.edit_session.specs.declared.accepted.Accepted.{Accepted}
use Rattle.edit_session.specs.declared.apply_stop.Refused.{Refused}
use Rattle.bench_undo.specs.Histories.{AppliesIn, HistoryState, IsSound, UndoCounts, UndoesAs, accepted}
use Rattle.bench_undo.specs.Ways.{AreWays, states}
use Rattle.bench_undo.specs.declared.undone.Undone.TheVariants.{Back}

abbrev Files : Type 0
Files = List (List FileItem)

abbrev Ways : Type 0
Ways = List (List SpliceItems)

pub length-states : (ways : Ways) (files : Files) → length (states ways files) ≡ length ways
length-states [] files = refl
length-states (way ∷ ways) files = ap suc (length-states ways (back way files))

-- the first ways lead to the first states, and are ways
take-states : (n : ℕ) (ways : Ways) (files : Files) → states (take n ways) files ≡ take n (states ways files)
take-states zero ways files = refl
take-states (suc n) [] files = refl
take-states (suc n) (way ∷ ways) files = ap (λ (ss : List Files). back way files ∷ ss) (take-states n ways (back way files))

AreWays-take : (n : ℕ) (ways : Ways) (files : Files) → AreWays ways files → AreWays (take n ways) files
AreWays-take zero ways files all = tt
AreWays-take (suc n) [] files all = tt
AreWays-take (suc n) (way ∷ ways) files all = (all.0, AreWays-take n ways (back way files) all.1)

pub sound_states : (ways : Ways) (files : Files) → AreWays ways files → All IsSound (states ways files)
sound_states [] files all = All-nil IsSound
sound_states (way ∷ ways) files all = All-cons IsSound (back way files) (states ways (back way files)) (record { kept = all.0.way.kept; valid = all.0.valid }) (sound_states ways (back way files) all.1)

-- ---- one way more

-- the state of a history of these
abbrev pub history_of : ℕ → Ways → Files → HistoryState
history_of depth ways files = record { depth = depth; files = files; earlier = states ways files }

pub ways_more : (depth : ℕ) (way : List SpliceItems) (ways : Ways) (before after : Files) → Keeps way after before → AreWays ways before → AreWays (take depth (way ∷ ways)) after
ways_more depth way ways before after keeps all = AreWays-take depth (way ∷ ways) after (keeps.way, subst (AreWays ways) (sym keeps.leads.leads) all)

states_more : (depth : ℕ) (way : List SpliceItems) (ways : Ways) (before after : Files) → Keeps way after before → states (take depth (way ∷ ways)) after ≡ take depth (before ∷ states ways before)
states_more depth way ways before after keeps =
    take-states depth (way ∷ ways) after ∙ ap (λ (fs : Files). take depth (fs ∷ states ways fs)) keeps.leads.leads

-- a way is put before the others, and the last ones go
pub put_first : (depth : ℕ) (way : List SpliceItems) (ways old pushed kept : Ways) → old ≡ ways → pushed ≡ way ∷ old → kept ≡ take depth pushed → kept ≡ take depth (way ∷ ways)
put_first depth way ways old pushed kept same put cut = cut ∙ ap (take depth) (put ∙ ap (λ (rest : Ways). way ∷ rest) same)

pub applied_in : (told : Accepted) (expected : Result Files Refused) (old new : ReleaseItems) (depth : ℕ) (way : List SpliceItems) (ways : Ways) → AppliesAs (Ok told) expected old new → Keeps way new.current old.current → AppliesIn (Ok told) expected (history_of depth ways old.current) (history_of depth (take depth (way ∷ ways)) new.current)
applied_in told (Ok files) old new depth way ways h keeps =
    let now : new.current ≡ files = ap (λ (r : ReleaseItems). r.current) h.0 in (
      ap (λ (ss : List Files). let s : HistoryState = record { depth = depth; files = new.current; earlier = ss } in s) (states_more depth way ways old.current new.current keeps)
          ∙ ap (λ (fs : Files). accepted (history_of depth ways old.current) fs) now,
      h.1,
    )
applied_in told (Err refused) old new depth way ways h keeps = absurd h

-- ---- one way less

pub undone_in : (told : Accepted) (old new : ReleaseItems) (depth : ℕ) (ways : Ways) (way : List SpliceItems) → 0 < length ways → way ≡ get_or ways 0 way → RevertsAs (Ok told) (back way old.current) old new
    → UndoesAs (Ok (Back told)) (states ways old.current) (history_of depth ways old.current) (history_of depth (drop 1 ways) new.current)
undone_in told old new depth [] way some is h = absurd (omega (arith, some))
undone_in told old new depth (w ∷ ways) way some is h =
    let now : new.current ≡ back w old.current = ap (λ (r : ReleaseItems). r.current) h.0 ∙ ap (λ (x : List SpliceItems). back x old.current) is in (
      ap (λ (fs : Files). history_of depth ways fs) now,
      h.1 ∙ ap (λ (x : List SpliceItems). changed (files_facts old.current) (files_facts (back x old.current))) is,
    )

pub counted_in : (depth : ℕ) (ways : Ways) (way : List SpliceItems) (files : Files) (old new : ℕ) → 0 < length ways → way ≡ get_or ways 0 way → CountsAs (Ok (back way files)) (files_facts files) old new → UndoCounts (states ways files) (history_of depth ways files) old new
counted_in depth [] way files old new some is h = absurd (omega (arith, some))
counted_in depth (w ∷ ways) way files old new some is h = subst (λ (x : List SpliceItems). CountsAs (Ok (back x files)) (files_facts files) old new) is h
