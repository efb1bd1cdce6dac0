-- What steps of a bracket set do to the members so far.
-- changed c b change        whether c is in behind a change, where b says whether it was in before
-- all_changed c b changes   the same behind changes, one after the other
-- gathered changes          the members behind changes, where there were none before
use Rattle.std.specs.Prelude.{ℕ, Bool, false, ◌&&◌, ◌||◌, List, fold}
use Rattle.unicodeset_eval.specs.Edges.{has}
use Rattle.unicodeset_eval.specs.declared.changes.Change.{Change}

abbrev pub changed : ℕ → Bool → Change → Bool
changed c b change = (b && has change.keep c) || has change.add c

abbrev pub all_changed : ℕ → Bool → List Change → Bool
all_changed c b changes = fold (changed c) b changes

abbrev pub gathered : List Change → ℕ → Bool
gathered changes c = all_changed c false changes
