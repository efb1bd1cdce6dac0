use Rattle.std.proofs.Common.{◌≡◌, Bool, true, List, sym, ◌∙◌}
use Rattle.std.specs.List.{Contains, dedup, list_any}
use Rattle.std.specs.Cmp.{IsEquivalence, both_ways}
use Rattle.std.proofs.lemmas.List.Filters.{dedup_is}
use Rattle.std.proofs.lemmas.List.Folds.{Any-from_list_any, list_any-from_Any}
use Rattle.std.proofs.lemmas.List.Kept.{Contains-dedup, Contains-from_dedup, IsStrictlySortedBy-dedup}
use Rattle.std.proofs.lemmas.List.Sorted.{list_any-IsPermutation}
use Rattle.fact_tables.proofs.changes.sort_and_dedup.Goals as goal

any_by : {X : Type 0} (p : X → Bool) (xs ys : List X) → ((x : X) → Contains xs x → Contains ys x) → list_any p xs ≡ true → list_any p ys ≡ true
any_by p xs ys all is =
    let found = Any-from_list_any p xs is in
    let there = all found.1 (found.0, found.2, found.3) in
    list_any-from_Any p ys (there.0, found.1, there.1, there.2, found.4)

-- one of each passes the same tests
any_dedup : {X : Type 0} (E : X → X → Bool) (p : X → Bool) (xs : List X) → IsEquivalence E → ((x y : X) → E x y ≡ true → x ≡ y) → list_any p (dedup E xs) ≡ list_any p xs
any_dedup E p xs laws same =
    both_ways (list_any p (dedup E xs)) (list_any p xs) (any_by p (dedup E xs) xs (Contains-from_dedup E xs)) (any_by p xs (dedup E xs) (Contains-dedup laws same xs))

pub returns-clause-same : goal.returns-clause-same
returns-clause-same g c p =
    rw (dedup_is _ _ _ c.dedup.ensures.filtered) (any_dedup g.V.PartialEq.eq p c.sort_unstable.new.self.items g.met.V.Eq.laws c.requires ∙ sym (list_any-IsPermutation p _ _ c.sort_unstable.ensures.permutation))

pub returns-clause-once : goal.returns-clause-once
returns-clause-once g c =
    rw (dedup_is _ _ _ c.dedup.ensures.filtered) (IsStrictlySortedBy-dedup g.met.V.Ord.total g.met.V.Ord.matches_eq _ c.sort_unstable.ensures.sorted)
