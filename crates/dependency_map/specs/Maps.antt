-- What the code points of a map of dependants ask, and of one that is being made.
-- asked_at at map c   the questions of c, where `at` reads the lists of the map, now or next: those that were prepared for it; its
--                     own ones where none were
-- put_at at listing c the same of a listing
use Rattle.std.specs.Prelude.{ℕ, List, Option}
use Rattle.ucd_facts.specs.declared.query.Query.{Query}
use Rattle.point_store.specs.declared.store.Store.{Ghosts}
use Rattle.dependency_map.specs.Askers.{asked_by}
use Rattle.dependency_map.specs.Index.{kept_at}
use Rattle.dependency_map.specs.declared.dependencies.DependencyMap.{DependencyMap}
use Rattle.dependency_map.specs.declared.dependencies.Listing.{Listing}

abbrev pub asked_at : {S : Type 0} {d : Ghosts S (Option (List Query))} → (S → ℕ → Option (List Query)) → DependencyMap S d → ℕ → List Query
asked_at at map c = asked_by c (kept_at at map.lists c)

abbrev pub put_at : {S : Type 0} {d : Ghosts S (Option (List Query))} → (S → ℕ → Option (List Query)) → Listing S d → ℕ → List Query
put_at at listing c = asked_by c (kept_at at listing.lists c)
