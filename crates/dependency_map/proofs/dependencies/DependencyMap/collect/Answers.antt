use Rattle.std.proofs.Common.{◌≡◌, ◌∙◌, ℕ, List, take, ap, take_all}
use Rattle.number_sets.specs.Keys.{has}
use Rattle.ucd_facts.specs.declared.query.Query.{Query}
use Rattle.dependency_map.specs.Askers.{asks_any}
use Rattle.dependency_map.specs.Maps.{asked_at}
use Rattle.dependency_map.proofs.PointLemmas.{points_same}
use Rattle.dependency_map.proofs.dependencies.DependencyMap.collect.Goals as goal

pub returns : goal.returns
returns g c =
    let asked : ℕ → List Query = asked_at g.S.Store.now c.args.self.now in
    let items : List Query = c.as_slice-query-items.result.now in
    let all : take c.queries.query-index items ≡ c.args.queries.now = take_all c.queries.query-index items c.queries-test.false ∙ c.as_slice-query-items.ensures in
    c.in_ok-points.ensures ∙ points_same (has c.of-sorted.result) (asks_any asked c.args.queries.now) (λ k inside. c.of-sorted.ensures k ∙ c.queries.invariant k inside ∙ ap (λ Q. asks_any asked Q k) all)
