use Rattle.std.proofs.Common.{◌≡◌, ◌≤◌, IsTrue, length, map, take}
use Rattle.shelf_io.specs.Contents.{SameContents}
use Rattle.run_endings.specs.Reading.{cut}
use Rattle.run_endings.proofs.reading.read_all.Given as goal

-- what was read so far is what the shelf held, and holds
abbrev pub invariant-paths : goal.invariant-paths
invariant-paths g l =
    let shelf = g.S.Shelf in
    record {
      len : length l.held.items ≡ l.at;
      contents : IsTrue shelf.tells → l.held.items ≡ map (λ path. cut (shelf.holds l.initial.shelf path)) (take l.at l.paths);
      cuts : l.held.items ≡ map cut l.held.items;
      stays : IsTrue shelf.tells → SameContents (shelf.holds l.initial.shelf) (shelf.holds l.shelf);
      none_failed : IsTrue shelf.tells_failed → shelf.last_failed l.shelf ≡ shelf.last_failed l.initial.shelf;
      reads : shelf.read_faults l.initial.shelf ≤ shelf.read_faults l.shelf;
      writes : shelf.write_faults l.shelf ≡ shelf.write_faults l.initial.shelf;
    }
