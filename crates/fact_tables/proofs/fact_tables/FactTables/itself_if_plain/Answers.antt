use Rattle.std.proofs.Common.{◌≡◌, ℕ, subst, arith}
use Rattle.ucd_facts.specs.Uniform.{IsPlain}
use Rattle.fact_tables.specs.FactTables.{facts_at}
use Rattle.fact_tables.specs.declared.now_or_next.NowOrNext.TheVariants.{Now}
use Rattle.fact_tables.proofs.fact_tables.FactTables.itself_if_plain.Goals as goal

pub returns-then-is_plain-clause-stretch : goal.returns-then-is_plain-clause-stretch
returns-then-is_plain-clause-stretch g c = record {
  from = omega arith;
  each = λ d low high.
      let same : c.args.c ≡ d = omega arith in
      subst (λ (n : ℕ). IsPlain n (facts_at Now c.args.self.now n)) same (subst (IsPlain c.args.c) c.facts.ensures (c.is_plain.ensures.0 c.if-is_plain.true));
}
