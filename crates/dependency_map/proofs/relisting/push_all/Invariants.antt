use Rattle.std.proofs.Common.{◌-◌}
use Rattle.number_sets.specs.Keys.{is_in}
use Rattle.point_store.specs.SlotStore.{values}
use Rattle.dependency_map.specs.Index.{ListsFrom}
use Rattle.dependency_map.proofs.relisting.push_all.Given as goal

-- the code points so far are listed
abbrev pub invariant-runs : goal.invariant-runs
invariant-runs g l = record {
  now : ListsFrom (is_in l.keys.items) (values g.T.Table.now l.lists) 0 l.number;
  next : ListsFrom (is_in l.keys.items) (values g.T.Table.next l.lists) 0 l.number;
}

abbrev pub decreases-runs : goal.decreases-runs
decreases-runs g l = 1114112 - l.number
