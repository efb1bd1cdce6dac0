use Rattle.std.proofs.Common.{◌≡◌, sym, ◌∙◌, arith}
use Rattle.fact_tables.specs.FactTables.{rests_at}
use Rattle.fact_tables.specs.declared.now_or_next.NowOrNext.TheVariants.{Now, Next}
use Rattle.fact_tables.proofs.fact_tables.FactTables.last_same_rest.Goals as goal

pub returns : goal.returns
returns g c =
    let now = c.last_of_stretch-now.ensures in
    let next = c.last_of_stretch_next-next.ensures in
    let same : rests_at Now c.args.self.now c.args.c ≡ rests_at Next c.args.self.now c.args.c = sym c.rest-rest.ensures ∙ c.is_same.ensures c.if-not-is_same.false ∙ c.rest-rest_next.ensures in
    record {
      from = omega (arith, now.from, next.from, c.lesser.ensures);
      each = λ d low high. now.same d low (omega (arith, high, c.lesser.ensures)) ∙ same ∙ sym (next.same d low (omega (arith, high, c.lesser.ensures)));
    }
