use Rattle.std.proofs.Common.{◌≡◌, subst, sym, arith, slice_get}
use Rattle.std.proofs.lemmas.Grind.{elements}
use Rattle.std.proofs.lemmas.Map.Keys.{non_decreasing_from_sorted, sorted_from_strictly_increasing}
use Rattle.number_sets.specs.Keys.{IsNext, is_in}
use Rattle.number_sets.proofs.KeyLemmas.{listed_next, parted}
use Rattle.number_sets.proofs.keys.next_in_sorted.Goals as goal

pub returns : goal.returns
returns c =
    let xs = c.args.sorted.now in
    let place = c.lower_bound-place.result in
    let got : c.copied.result ≡ slice_get xs place = grind (arith, elements) in
    subst (IsNext (is_in xs) c.args.start) (sym got) (listed_next xs c.args.start place (non_decreasing_from_sorted xs (sorted_from_strictly_increasing xs c.requires)) (parted xs c.args.start place c.lower_bound-place.ensures))
