use Rattle.std.proofs.Common.{inl, inr}
use Rattle.std.proofs.lemmas.Bool.{or_cases}
use Rattle.ucd_facts.specs.Composites.{composes}
use Rattle.fact_tables.specs.FactTables.{facts_at}
use Rattle.fact_tables.specs.declared.now_or_next.NowOrNext.TheVariants.{Now, Next}
use Rattle.fact_tables.proofs.TableLemmas.{on_ok_both}
use Rattle.fact_tables.proofs.fact_tables.FactTables.put_own_pairs.Goals as goal

pub returns-clause-own : goal.returns-clause-own
returns-clause-own g c =
    let t = c.args.self.now in
    on_ok_both c.put_pair_composed-2.result _ _ _
    (λ grows next s y is. elim (or_cases (composes (facts_at Now t) s y c.args.q) (composes (facts_at Next t) s y c.args.q) is) [
      | inl now ↦ grows s y (c.in_ok-put_pair_composed.ensures.own s y now)
      | inr then ↦ next s y then
    ])
    c.put_pair_composed-2.ensures.grows c.put_pair_composed-2.ensures.own
