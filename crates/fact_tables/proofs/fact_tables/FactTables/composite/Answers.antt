use Rattle.std.proofs.Common.{◌≡◌, ℕ, ◌<◌, false, true, sym, ◌∙◌, arith}
use Rattle.std.proofs.lemmas.Bool.Decides.{nat_tests}
use Rattle.ucd_facts.specs.Facts.{Facts}
use Rattle.ucd_facts.specs.Composites.{composes}
use Rattle.fact_tables.specs.FactTables.{words_at, rests_at, facts_at}
use Rattle.fact_tables.proofs.IndexLemmas.{pair_of_mark, pair_unlisted, pair_found, pair_none, none_more, none_next}
use Rattle.fact_tables.proofs.TableLemmas.{listed_at, pair_inside}
use Rattle.fact_tables.proofs.fact_tables.FactTables.composite.Goals as goal

-- nothing composes a mark
pub returns-then-class_in-ne0 : goal.returns-then-class_in-ne0
returns-then-class_in-ne0 g c =
    pair_of_mark (facts_at c.args.version c.args.self.now) c.args.s c.args.y (grind (arith, nat_tests, c.class_in.ensures))

pub returns-then-is_pair : goal.returns-then-is_pair
returns-then-is_pair g c =
    let F : ℕ → Facts = facts_at c.args.version c.args.self.now in
    let q : ℕ = c.in-Some.q in
    let is : composes F c.args.s c.args.y q ≡ true = sym (c.composite_members.ensures.pair c.args.s c.args.y) ∙ sym c.is_pair.ensures ∙ c.if-is_pair.true in
    let inside : q < 1114112 = pair_inside (words_at c.args.version c.args.self.now) (rests_at c.args.version c.args.self.now) c.args.s c.args.y q is in
    pair_found F c.args.s c.args.y q inside
    (none_more (composes F c.args.s c.args.y) c.listed.from q c.listed.invariant.none (λ k from lt. pair_unlisted F c.args.self.now.index c.args.s c.args.y k (listed_at c.args.version c.args.self.now) (c.in-Some.ensures.3 k from lt))) is

pub listed-preserved : goal.listed-preserved
listed-preserved g c =
    let F : ℕ → Facts = facts_at c.args.version c.args.self.now in
    let q : ℕ = c.in-Some.q in
    let other : composes F c.args.s c.args.y q ≡ false = sym (c.composite_members.ensures.pair c.args.s c.args.y) ∙ sym c.is_pair.ensures ∙ c.if-is_pair.false in
    record {
      within = omega (arith, c.number-from.ensures.bound);
      none = none_next (composes F c.args.s c.args.y) q c.number-from.result c.number-from.ensures.value
          (none_more (composes F c.args.s c.args.y) c.listed.from q c.listed.invariant.none (λ k from lt. pair_unlisted F c.args.self.now.index c.args.s c.args.y k (listed_at c.args.version c.args.self.now) (c.in-Some.ensures.3 k from lt))) other;
    }

pub returns : goal.returns
returns g c =
    let F : ℕ → Facts = facts_at c.args.version c.args.self.now in
    pair_none F c.args.s c.args.y (none_more (composes F c.args.s c.args.y) c.listed.from 1114112 c.listed.invariant.none (λ k from lt. pair_unlisted F c.args.self.now.index c.args.s c.args.y k (listed_at c.args.version c.args.self.now) (c.in_default.ensures k from lt)))
