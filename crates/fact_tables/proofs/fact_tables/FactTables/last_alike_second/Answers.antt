use Rattle.std.proofs.Common.{◌≡◌, ℕ, ◌+◌, ◌/◌, ◌≤◌, ◌<◌, false, sym, ◌∙◌, arith}
use Rattle.ucd_facts.specs.Composites.{second_of}
use Rattle.fact_tables.specs.FactTables.{facts_at}
use Rattle.fact_tables.specs.Index.{second_key}
use Rattle.fact_tables.specs.declared.now_or_next.NowOrNext.TheVariants.{Now}
use Rattle.fact_tables.proofs.IndexLemmas.{second_absent}
use Rattle.fact_tables.proofs.TableLemmas.{listed_at}
use Rattle.fact_tables.proofs.fact_tables.FactTables.last_alike_second.Goals as goal

pub returns-in_default : goal.returns-in_default
returns-in_default g c =
    let t = c.args.self.now in
    let absent : (d : ℕ) → c.args.c ≤ d → second_of (facts_at Now t) d ≡ false =
    λ d low. second_absent (facts_at Now t) t.index d (listed_at Now t) (λ k lt. c.in_default.ensures (second_key d + k) (omega (arith, c.second_member_base.ensures.value))) in
    record {
      from = omega arith;
      each = λ d low high. absent d low ∙ sym (absent c.args.c (omega arith));
    }

pub returns-then-next-lt1114112 : goal.returns-then-next-lt1114112
returns-then-next-lt1114112 g c =
    let t = c.args.self.now in
    let absent : (d : ℕ) → c.args.c ≤ d → d < c.in-Some.key / 2097152 → second_of (facts_at Now t) d ≡ false =
    λ d low high. second_absent (facts_at Now t) t.index d (listed_at Now t)
    (λ k lt. c.in-Some.ensures.2 (second_key d + k) (omega (arith, c.second_member_base.ensures.value)) (omega arith)) in
    record {
      from = omega arith;
      each = λ d low high. absent d low (omega arith) ∙ sym (absent c.args.c (omega arith) (omega arith));
    }
