use Rattle.std.proofs.Common.{◌≡◌, ◌<◌, length, ℕ, List, [], Some, None, cond, sym, ap, ◌∙◌, arith, slice_index_or, take}
use Rattle.std.proofs.lemmas.List.{get_or_default}
use Rattle.property_aliases.specs.Loose.{is_name}
use Rattle.property_aliases.specs.ResolvingLaws.{direct, direct_more, least}
use Rattle.property_aliases.proofs.naming.places_of_table.Goals as goal

named : (names : List (List ℕ)) (k : ℕ) (n : List ℕ) → k < length names → n ≡ slice_index_or names k n → n ≡ slice_index_or names k []
named names k n lt is = is ∙ get_or_default names k n [] lt

pub names-preserved : goal.names-preserved
names-preserved c = record {
  within = omega (arith, c.names-test.true);
  places = λ key.
      let lt = c.names-test.true in
      let here = ap (λ (n : List ℕ). least (direct (take c.names.place c.args.names.now) key) (cond (is_name key n) (Some c.names.place) None)) (named c.args.names.now c.names.place c.index-names-place.result lt c.index-names-place.is) in
      c.in_ok-put.ensures key ∙ rw (c.as_slice.ensures, c.names.invariant.places key) here ∙ sym (direct_more c.args.names.now c.names.place key lt);
}
