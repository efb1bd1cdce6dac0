use Rattle.std.proofs.Common.{◌≡◌, ◌-◌, ◌≤◌, drop, length}
use Rattle.edit_session.specs.Groups.{HasTouched, after_ops}
use Rattle.edit_session.proofs.group.prepare_rows.Given as goal

-- the operations that are left give what all give
abbrev pub invariant-operations : goal.invariant-operations
invariant-operations l = record {
  left : after_ops l.release.prepared l.done (drop l.done l.group) ≡ after_ops l.initial.release.prepared 0 l.group;
  now : l.release.current ≡ l.initial.release.current;
  touched : HasTouched l.initial.release.prepared l.release.prepared l.initial.touched l.touched;
  within : l.done ≤ length l.group;
}

abbrev pub decreases-operations : goal.decreases-operations
decreases-operations l = length l.group - l.done
