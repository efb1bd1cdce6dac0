use Rattle.std.proofs.Common.{◌≡◌, subst, sym, arith}
use Rattle.fact_tables.specs.FactTables.{words_at, rests_at, facts_at}
use Rattle.ucd_points.specs.Stretches.{HoldsTo}
use Rattle.fact_tables.specs.declared.now_or_next.NowOrNext.TheVariants.{Now, Next}
use Rattle.fact_tables.proofs.AlikeLemmas.{same_to}
use Rattle.fact_tables.proofs.fact_tables.FactTables.last_same.Goals as goal

pub returns : goal.returns
returns g c =
    let t = c.args.self.now in
    subst (HoldsTo (λ d. facts_at Now t d ≡ facts_at Next t d) c.args.c) (sym c.lesser-last.ensures)
    (same_to (words_at Now t) (words_at Next t) (rests_at Now t) (rests_at Next t) c.args.c c.in_ok-words.words c.in_ok-rests.rests
    (omega (arith, c.lesser-last.ensures, c.number-last.ensures.value, c.number-last.ensures.bound)) c.in_ok-words.ensures c.in_ok-rests.ensures)
