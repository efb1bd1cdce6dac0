-- What a run of `ages` has seen when it stops at a folder, behind folders that are not refused.
use Rattle.std.proofs.Common.{◌≡◌, ℕ, ◌+◌, List, ◌∷◌, ◌++◌, length, Some, Err, sym, subst, ◌∙◌, arith, slice_get}
use Rattle.release_rows.specs.Releases.{ReleaseItems}
use Rattle.shelf_io.specs.declared.shelf.Shelf.{Ghosts as ShelfGhosts}
use Rattle.run_endings.specs.Outcome.{LastFailedStays}
use Rattle.run_endings.specs.Planning.{OnRefused, OnlyRead, UnreadAs}
use Rattle.run_endings.specs.Promises.{shelf_seen}
use Rattle.run_endings.specs.declared.stop.Stop.{Stop}
use Rattle.run_endings.specs.declared.stop.Stop.TheVariants.{Refused, ReadFailed, Memory}
use Rattle.run_inputs.specs.Paths.{sources_in}
use Rattle.ucdshop_more_core.specs.Chaining.{AreRefused, IsRefused, folders_paths}
use Rattle.ucdshop_more_core.specs.Order.{IsReached, NamesPath, OnUnread}
use Rattle.ucdshop_more_core.proofs.FolderLemmas.{ReadSoFar, are_fine, path_among, refused_next}

-- ---- a shelf that is read again

module _ {S : Type 0} (g : ShelfGhosts S) (start middle end : S) where
  pub only_then : OnlyRead (shelf_seen g start middle) → OnlyRead (shelf_seen g middle end) → OnlyRead (shelf_seen g start end)
  only_then first later = record {
    held_stays = λ tells path. later.held_stays tells path ∙ first.held_stays tells path;
    read_faults_never_fall = omega (arith, first.read_faults_never_fall, later.read_faults_never_fall);
    write_faults_stay = later.write_faults_stay ∙ first.write_faults_stay;
  }

  pub stays_then : LastFailedStays (shelf_seen g start middle) → LastFailedStays (shelf_seen g middle end) → LastFailedStays (shelf_seen g start end)
  stays_then first later = λ tells. later tells ∙ first tells

-- ---- a folder at which the run stops

module _ {S : Type 0} (g : ShelfGhosts S) (start middle end : S) (folders before : List (List ℕ)) (folder : List ℕ) (later : List (List ℕ)) (whole : folders ≡ before ++ folder ∷ later)
    (releases : List ReleaseItems) (far : ReadSoFar g.tells (g.holds start) before releases) (only : OnlyRead (shelf_seen g start middle)) (stays : LastFailedStays (shelf_seen g start middle)) where
  pub stops_refused : (stop : Stop) → OnRefused {A = ReleaseItems} (Err stop) (λ line. IsRefused folder line g.tells (g.holds middle))
      → OnRefused {A = Unit {0}} (Err stop) (λ line. AreRefused g.tells (g.holds start) folders line)
  stops_refused (Refused line) refused =
      subst (λ (fs : List (List ℕ)). AreRefused g.tells (g.holds start) fs line) (sym whole)
      (refused_next g.tells (g.holds start) before releases far (g.holds middle) folder only.held_stays line later refused)
  stops_refused (ReadFailed line) refused = tt
  stops_refused Memory refused = tt

  pub stops_unread : (stop : Stop) → UnreadAs {A = ReleaseItems} (Err stop) (sources_in folder) (shelf_seen g middle end) → UnreadAs {A = Unit {0}} (Err stop) (folders_paths folders) (shelf_seen g start end)
  stops_unread (Refused line) unread = stays_then g start middle end stays unread
  stops_unread (ReadFailed line) unread =
      let names = unread.1 in (
        omega (arith, only.read_faults_never_fall, unread.0),
        record {
          path = names.path;
          place = length (folders_paths before) + names.place;
          needed = subst (λ (fs : List (List ℕ)). slice_get (folders_paths fs) (length (folders_paths before) + names.place) ≡ Some names.path) (sym whole)
              (path_among before folder later names.place names.path names.needed);
          told = names.told;
          last = names.last;
        },
      )
  stops_unread Memory unread = tt

  pub stops_in_order : (stop : Stop) → UnreadAs {A = ReleaseItems} (Err stop) (sources_in folder) (shelf_seen g middle end)
      → OnUnread {A = Unit {0}} (Err stop) (λ line. NamesPath (IsReached g.tells (g.holds start) folders) (shelf_seen g start end) line)
  stops_in_order (Refused line) unread = tt
  stops_in_order (ReadFailed line) unread =
      let names = unread.1 in
      record {
        path = names.path;
        told = names.told;
        last = names.last;
        reached = record {
          before = before;
          folder = folder;
          later = later;
          here = whole;
          place = names.place;
          file = names.needed;
          fine = are_fine g.tells (g.holds start) before releases far;
        };
      }
  stops_in_order Memory unread = tt
