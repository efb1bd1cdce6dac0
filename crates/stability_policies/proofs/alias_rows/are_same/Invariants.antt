use Rattle.std.proofs.Common.{◌≡◌, take}
use Rattle.stability_policies.proofs.alias_rows.are_same.Given as goal

-- the names so far are the same
abbrev pub invariant-loop-at : goal.invariant-loop-at
invariant-loop-at l = take l.at l.a ≡ take l.at l.b
