use Rattle.std.proofs.Common.{◌≡◌, ℕ, ◌%◌, subst, arith, inl, inr}
use Rattle.number_sets.specs.Keys.{has}
use Rattle.std.proofs.lemmas.Bool.{cases_lt, both_ways}
use Rattle.fact_tables.specs.Changes.{ReachesOwn}
use Rattle.fact_tables.specs.FactTables.{facts_at, words_at, rests_at}
use Rattle.fact_tables.specs.declared.now_or_next.NowOrNext.TheVariants.{Now, Next}
use Rattle.fact_tables.proofs.ChangeLemmas.{reaches_grows, listed_own}
use Rattle.fact_tables.proofs.fact_tables.FactTables.put_pairs_listed_under.Goals as goal

pub listed-init : goal.listed-init
listed-init g c = record {
  from = omega arith;
  within = omega arith;
  grows = λ s y is. is;
  own = λ k low high. absurd (omega arith);
}

pub listed-preserved : goal.listed-preserved
listed-preserved g c =
    let t = c.args.self.now in
    let key : ℕ = c.in-Some.key in
    let step = c.in_ok-put_pairs_of_key.ensures in
    record {
      from = omega (arith, c.in-Some.ensures.0);
      within = omega (arith, c.in-Some.ensures.1);
      grows = λ s y is. step.grows s y (c.listed.invariant.grows s y is);
      own = λ k low high is. elim (cases_lt k c.listed.from) [
        | inl before ↦ reaches_grows (facts_at Now t) (facts_at Next t) c.listed.pairs.items c.put_pairs_of_key.new.pairs.items (k % 2097152) step.grows (c.listed.invariant.own k low before is)
        | inr from ↦ elim (cases_lt k key) [
          | inl below ↦ absurd (both_ways (has t.index.pairs k) (c.in-Some.ensures.3 k from below) is)
          | inr past ↦ let same : key ≡ k = omega arith in subst (λ (n : ℕ). ReachesOwn (facts_at Now t) (facts_at Next t) c.put_pairs_of_key.new.pairs.items (n % 2097152)) same step.own
        ]
      ];
    }

pub returns-clause-listed : goal.returns-clause-listed
returns-clause-listed g c =
    let t = c.args.self.now in
    listed_own t.index (words_at Now t) (words_at Next t) (rests_at Now t) (rests_at Next t) c.listed.pairs.items c.args.s
    (λ k low high is. elim (cases_lt k c.listed.from) [
      | inl before ↦ c.listed.invariant.own k low before is
      | inr from ↦ absurd (both_ways (has t.index.pairs k) (c.in_default.ensures k from high) is)
    ])
