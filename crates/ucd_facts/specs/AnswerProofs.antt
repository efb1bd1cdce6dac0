-- Proofs about the tests of questions.
-- queries_are_told         the law of the same name
-- same_query-equivalence   the test is an equivalence
use Rattle.std.proofs.Common.{◌≡◌, ℕ, true, false, ◌==◌, refl, sym, ap, Decides, true≢false, eqb-true, eq-eqb}
use Rattle.std.specs.Cmp.{IsEquivalence, both_ways}
use Rattle.std.proofs.lemmas.Bool.Decides.{Decides-and, Decides-eqb}
use Rattle.ucd_facts.specs.declared.query.Query.TheVariants.{Row, Pair, Second}
use Rattle.ucd_facts.specs.Answers.{same_query, QueriesAreTold, Query}

differ : {q r : Query} → (q ≡ r → ⊥) → Decides false (q ≡ r)
differ never = (λ t. absurd (true≢false (sym t)), λ e. absurd (never e))

pub queries_are_told : QueriesAreTold
queries_are_told (Row x) (Row y) = (λ t. ap (λ (z : ℕ). Row z) (eqb-true x y t), λ e. eq-eqb x y cc)
queries_are_told (Pair s x) (Pair t y) =
    let both = Decides-and (s == t) (x == y) (Decides-eqb s t) (Decides-eqb x y) in
    (λ e. let same = both.0 e in rw (same.0, same.1) refl, λ e. both.1 (cc, cc))
queries_are_told (Second x) (Second y) = (λ t. ap (λ (z : ℕ). Second z) (eqb-true x y t), λ e. eq-eqb x y cc)
queries_are_told (Row x) (Pair s y) = differ (λ e. cc)
queries_are_told (Row x) (Second y) = differ (λ e. cc)
queries_are_told (Pair s x) (Row y) = differ (λ e. cc)
queries_are_told (Pair s x) (Second y) = differ (λ e. cc)
queries_are_told (Second x) (Row y) = differ (λ e. cc)
queries_are_told (Second x) (Pair s y) = differ (λ e. cc)

pub same_query-equivalence : IsEquivalence same_query
same_query-equivalence = record {
  refl = λ x. (queries_are_told x x).1 refl;
  symm = λ x y. both_ways (same_query x y) (same_query y x) (λ e. (queries_are_told y x).1 (sym ((queries_are_told x y).0 e))) (λ e. (queries_are_told x y).1 (sym ((queries_are_told y x).0 e)));
  congr = λ x y z e. ap (λ q. same_query q z) ((queries_are_told x y).0 e);
}
