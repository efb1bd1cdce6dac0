use Rattle.std.proofs.Common.{◌≤◌, ◌+◌, ◌-◌, ◌++◌, drop, length}
use Rattle.stability_policies.specs.NamedRows.{AreLeft, named}
use Rattle.stability_policies.proofs.differing.put_differing.Given as goal

-- the names so far, and those of the rows that are left
abbrev pub invariant-rows : goal.invariant-rows
invariant-rows l = record {
  left : AreLeft (l.initial.before.items ++ named l.old) (l.initial.after.items ++ named l.new) (l.before.items ++ named (drop l.at_old l.old)) (l.after.items ++ named (drop l.at_new l.new));
  old_within : l.at_old ≤ length l.old;
  new_within : l.at_new ≤ length l.new;
}

abbrev pub decreases-rows : goal.decreases-rows
decreases-rows l = (length l.old - l.at_old) + (length l.new - l.at_new)
