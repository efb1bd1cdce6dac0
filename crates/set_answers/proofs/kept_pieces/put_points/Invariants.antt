use Rattle.std.proofs.Common.{◌≡◌, ℕ, true, ◌||◌, length}
use Rattle.number_sets.specs.Keys.{has}
use Rattle.ucd_model.specs.Sameness.{is_in}
use Rattle.set_answers.proofs.kept_pieces.put_points.Given as goal

-- each code point is put, or among those that are left
abbrev pub invariant-points : goal.invariant-points
invariant-points l = record {
  grows : (c : ℕ) → has l.initial.numbers c ≡ true → has l.numbers c ≡ true;
  all : (c : ℕ) → is_in l.points c ≡ true → (has l.numbers c || is_in l.left c) ≡ true;
}

abbrev pub decreases-points : goal.decreases-points
decreases-points l = length l.left
