use Rattle.std.proofs.Common.{◌≡◌, refl, sym, ◌∙◌, arith}
use Rattle.fact_tables.specs.FactTables.{words_at, rests_at}
use Rattle.fact_tables.specs.Rest.{no_rest}
use Rattle.fact_tables.specs.declared.now_or_next.NowOrNext.TheVariants.{Now}
use Rattle.fact_tables.proofs.PlainLemmas.{unmapped_plain}
use Rattle.fact_tables.proofs.fact_tables.FactTables.is_plain.Goals as goal

pub returns-then-is_none : goal.returns-then-is_none
returns-then-is_none g c =
    let t = c.args.self.now in
    let none : rests_at Now t c.args.c ≡ no_rest = sym c.get.ensures ∙ c.is_none.ensures c.if-is_none.true in
    (λ _. unmapped_plain (words_at Now t) (rests_at Now t) c.args.c (omega (arith, c.number-number.ensures.value, c.number-number.ensures.bound)) none, λ _. refl)
