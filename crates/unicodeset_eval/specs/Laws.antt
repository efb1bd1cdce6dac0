-- What holds of all sets.
-- EqualMembersHaveEqualEdges   a set that is told by whether 0 is in it and by rising edges above 0 is told in one way
--                              alone
use Rattle.std.specs.Prelude.{◌≡◌, ℕ}
use Rattle.unicodeset_eval.specs.Edges.{Edges, Rises, has}

abbrev pub EqualMembersHaveEqualEdges : Type 0
EqualMembersHaveEqualEdges = (s t : Edges) → Rises 1 s.edges → Rises 1 t.edges → ((c : ℕ) → has s c ≡ has t c) → s ≡ t
