use Rattle.std.proofs.Common.{◌≡◌, ◌∙◌, ap, sym, subst, eqb}
use Rattle.std.specs.List.{dedup}
use Rattle.std.specs.List.Sorted.{IsStrictlyIncreasing}
use Rattle.std.proofs.lemmas.List.Filters.{dedup_is}
use Rattle.std.proofs.lemmas.List.Sorted.{list_any-IsPermutation}
use Rattle.std.proofs.lemmas.Map.Keys.{IsStrictlyIncreasing-dedup}
use Rattle.number_sets.specs.Keys.{is_in}
use Rattle.number_sets.proofs.KeyLemmas.{kept_by_dedup}
use Rattle.number_sets.proofs.keys.sorted_distinct.Goals as goal

left : (c : goal.After-shrink_to_fit) → c.dedup.new.self.items ≡ dedup eqb c.sort_unstable.new.self.items
left c = dedup_is eqb c.sort_unstable.new.self.items c.dedup.new.self.items c.dedup.ensures.filtered

pub returns-clause-same : goal.returns-clause-same
returns-clause-same c = λ k. ap (λ l. is_in l k) (c.shrink_to_fit.ensures.items ∙ left c)
    ∙ kept_by_dedup c.sort_unstable.new.self.items k
    ∙ sym (list_any-IsPermutation (λ y. eqb k y) c.args.keys.items c.sort_unstable.new.self.items c.sort_unstable.ensures.permutation)

pub returns-clause-ascends : goal.returns-clause-ascends
returns-clause-ascends c = subst IsStrictlyIncreasing (sym (c.shrink_to_fit.ensures.items ∙ left c)) (IsStrictlyIncreasing-dedup c.sort_unstable.new.self.items c.sort_unstable.ensures.sorted)
