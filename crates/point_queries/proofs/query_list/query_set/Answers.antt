use Rattle.std.proofs.Common.{◌≡◌, ℕ, true, ◌==◌, refl, ap, sym, ◌∙◌, subst}
use Rattle.std.specs.List.Sorted.{IsStrictlySortedBy}
use Rattle.std.proofs.lemmas.Bool.{eqb-true, and_parts}
use Rattle.std.proofs.lemmas.List.Filters.{dedup_is}
use Rattle.std.proofs.lemmas.List.Sorted.{IsPermutation-refl}
use Rattle.ucd_facts.specs.declared.query.Query.TheVariants.{Row, Pair, Second}
use Rattle.ucd_facts.specs.contracts.query.QueryPartialEq.TheImpl as equality
use Rattle.ucd_facts.specs.contracts.query.QueryOrd.TheImpl as ordering
use Rattle.ucd_facts.specs.contracts.query.QueryOrd.TheImpl.Laws.{total-law, matches_eq-law}
use Rattle.ucd_facts.specs.contracts.query.QueryEq.TheImpl.Laws.{laws-law}
use Rattle.ucd_facts.specs.Answers.{is_asked}
use Rattle.ucd_facts.specs.declared.query.Query.{Query}
use Rattle.point_queries.specs.QueryLists.{set_has, set_rises}
use Rattle.point_queries.proofs.query_list.query_set.Goals as goal

eq_same : (x y : Query) → equality.eq-value.it x y ≡ true → x ≡ y
eq_same (Row x) (Row y) e = ap (λ (z : ℕ). Row z) (eqb-true x y e)
eq_same (Pair s x) (Pair t y) e = let both = and_parts (s == t) (x == y) e in rw (eqb-true s t both.0, eqb-true x y both.1) refl
eq_same (Second x) (Second y) e = ap (λ (z : ℕ). Second z) (eqb-true x y e)
eq_same (Row x) (Pair s y) e = cc
eq_same (Row x) (Second y) e = cc
eq_same (Pair s x) (Row y) e = cc
eq_same (Pair s x) (Second y) e = cc
eq_same (Second x) (Row y) e = cc
eq_same (Second x) (Pair s y) e = cc

pub returns-clause-same : goal.returns-clause-same
returns-clause-same c = λ q. ap (λ l. is_asked l q) c.from_vec.ensures
    ∙ set_has equality.eq-value.it laws-law eq_same c.dedup.new.self.items c.sort_unstable.new.self.items c.dedup-2.new.self.items c.sort_unstable.ensures.permutation (dedup_is equality.eq-value.it c.sort_unstable.new.self.items c.dedup-2.new.self.items c.dedup-2.ensures.filtered) q
    ∙ set_has equality.eq-value.it laws-law eq_same c.args.asked.items c.args.asked.items c.dedup.new.self.items (IsPermutation-refl c.args.asked.items) (dedup_is equality.eq-value.it c.args.asked.items c.dedup.new.self.items c.dedup.ensures.filtered) q

pub returns-clause-rising : goal.returns-clause-rising
returns-clause-rising c = subst (IsStrictlySortedBy ordering.cmp-value.it) (sym c.from_vec.ensures)
    (set_rises ordering.cmp-value.it total-law equality.eq-value.it matches_eq-law c.sort_unstable.new.self.items c.dedup-2.new.self.items c.sort_unstable.ensures.sorted (dedup_is equality.eq-value.it c.sort_unstable.new.self.items c.dedup-2.new.self.items c.dedup-2.ensures.filtered))
