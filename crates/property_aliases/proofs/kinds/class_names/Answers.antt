use Rattle.std.proofs.Common.{◌≡◌, ◌∷◌, ◌++◌, [], List, ℕ, sym, ap, ◌∙◌, arith, decimal}
use Rattle.std.proofs.lemmas.List.FromFn.{map-range_with_len_more}
use Rattle.property_aliases.proofs.kinds.class_names.Goals as goal

pub numbers-preserved : goal.numbers-preserved
numbers-preserved c = record {
  below = omega (arith, c.numbers-test.true);
  names = c.in_ok-push_decimal.ensures ∙ ap (λ (xs : List (List ℕ)). xs ++ decimal c.numbers.number ∷ []) c.numbers.invariant.names ∙ sym (map-range_with_len_more decimal 0 c.numbers.number c.numbers.number (omega arith));
}
