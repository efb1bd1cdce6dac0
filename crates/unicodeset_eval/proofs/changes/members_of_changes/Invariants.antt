use Rattle.std.proofs.Common.{◌≡◌, ℕ, drop}
use Rattle.unicodeset_eval.specs.Changes.{all_changed, gathered}
use Rattle.unicodeset_eval.specs.Edges.{has}
use Rattle.unicodeset_eval.proofs.changes.members_of_changes.Given as goal

-- the changes that are left give, of the set so far, what all changes give
abbrev pub invariant-changes : goal.invariant-changes
invariant-changes l = (c : ℕ) → all_changed c (has l.set c) (drop l.change-index l.changes) ≡ gathered l.changes c
