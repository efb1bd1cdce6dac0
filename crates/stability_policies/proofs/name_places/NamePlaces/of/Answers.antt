use Rattle.std.proofs.Common.{sym, ◌∙◌, arith}
use Rattle.std.proofs.lemmas.List.Sorted.{list_any-IsPermutation}
use Rattle.stability_policies.specs.NamePlaces.{is_at}
use Rattle.stability_policies.proofs.PlaceLemmas.{all_rows}
use Rattle.stability_policies.proofs.name_places.NamePlaces.of.Goals as goal

pub invariant_of-result : goal.invariant_of-result
invariant_of-result c = record {
  whole = λ name p. sym (list_any-IsPermutation (is_at name p) c.loop-place.entries.items c.sort_unstable.new.self.items c.sort_unstable.ensures.permutation)
      ∙ c.loop-place.invariant name p ∙ all_rows c.args.rows.now c.loop-place.place p name (omega arith);
  ordered = c.sort_unstable.ensures.sorted;
}
