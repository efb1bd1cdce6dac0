use Rattle.std.proofs.Common.{List, take}
use Rattle.release_rows.specs.Releases.{ReleaseItems}
use Rattle.run_endings.specs.Outcome.{LastFailedStays}
use Rattle.run_endings.specs.Planning.{OnlyRead}
use Rattle.run_endings.specs.Promises.{shelf_seen}
use Rattle.ucdshop_more_core.specs.Chaining.{Follows}
use Rattle.ucdshop_more_core.proofs.FolderLemmas.{ReadSoFar}
use Rattle.ucdshop_more_core.proofs.chaining.chain_folders.Given as goal

-- the folders before this one are read, and their releases are chained
abbrev pub invariant-folders : goal.invariant-folders
invariant-folders g l =
    let shelf = g.S.Shelf in
    record {
      far : (releases : List ReleaseItems) × ReadSoFar shelf.tells (shelf.holds l.initial.shelf) (take l.folder-index l.folders) releases × Follows l.chained releases;
      only : OnlyRead (shelf_seen shelf l.initial.shelf l.shelf);
      failed : LastFailedStays (shelf_seen shelf l.initial.shelf l.shelf);
    }
