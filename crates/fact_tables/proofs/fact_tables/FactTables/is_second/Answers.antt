use Rattle.std.proofs.Common.{◌≡◌, ℕ, ◌<◌, false, true, sym, ◌∙◌, arith}
use Rattle.ucd_facts.specs.Facts.{Facts}
use Rattle.ucd_facts.specs.Composites.{ends_with}
use Rattle.fact_tables.specs.FactTables.{words_at, rests_at, facts_at}
use Rattle.fact_tables.proofs.IndexLemmas.{second_unlisted, second_found, second_none, none_more, none_next}
use Rattle.fact_tables.proofs.TableLemmas.{listed_at, second_inside}
use Rattle.fact_tables.proofs.fact_tables.FactTables.is_second.Goals as goal

pub returns-then-ends_pair : goal.returns-then-ends_pair
returns-then-ends_pair g c =
    let F : ℕ → Facts = facts_at c.args.version c.args.self.now in
    let q : ℕ = c.in-Some.q in
    let is : ends_with F c.args.y q ≡ true = sym (c.composite_members.ensures.second c.args.y) ∙ sym c.ends_pair.ensures ∙ c.if-ends_pair.true in
    let inside : q < 1114112 = second_inside (words_at c.args.version c.args.self.now) (rests_at c.args.version c.args.self.now) c.args.y q is in
    second_found F c.args.y q inside is

pub listed-preserved : goal.listed-preserved
listed-preserved g c =
    let F : ℕ → Facts = facts_at c.args.version c.args.self.now in
    let q : ℕ = c.in-Some.q in
    let other : ends_with F c.args.y q ≡ false = sym (c.composite_members.ensures.second c.args.y) ∙ sym c.ends_pair.ensures ∙ c.if-ends_pair.false in
    record {
      within = omega (arith, c.number-from.ensures.bound);
      none = none_next (ends_with F c.args.y) q c.number-from.result c.number-from.ensures.value
          (none_more (ends_with F c.args.y) c.listed.from q c.listed.invariant.none (λ k from lt. second_unlisted F c.args.self.now.index c.args.y k (listed_at c.args.version c.args.self.now) (c.in-Some.ensures.3 k from lt))) other;
    }

pub returns : goal.returns
returns g c =
    let F : ℕ → Facts = facts_at c.args.version c.args.self.now in
    second_none F c.args.y (none_more (ends_with F c.args.y) c.listed.from 1114112 c.listed.invariant.none (λ k from lt. second_unlisted F c.args.self.now.index c.args.y k (listed_at c.args.version c.args.self.now) (c.in_default.ensures k from lt)))
