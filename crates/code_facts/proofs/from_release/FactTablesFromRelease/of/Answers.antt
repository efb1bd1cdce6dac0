use Rattle.std.proofs.Common.{sym, ◌∙◌}
use Rattle.ucd_facts.specs.FactsLemmas.{facts_inside}
use Rattle.fact_tables.specs.FactTables.{words_at, rests_at}
use Rattle.release_rows.specs.Releases.{rows_now}
use Rattle.fact_tables.specs.declared.now_or_next.NowOrNext.TheVariants.{Now, Next}
use Rattle.fact_tables.specs.KeptFactsLemmas.{point_below}
use Rattle.code_facts.proofs.FactLemmas.{facts_from_points}
use Rattle.code_facts.proofs.ReleaseLemmas.{shown_packs}
use Rattle.code_facts.proofs.from_release.FactTablesFromRelease.of.Goals as goal

pub filled-requires : goal.filled-requires
filled-requires g c = record { words = shown_packs c.in_ok-made.made (rows_now c.args.release.now) c.in_ok-made.ensures }

pub returns-clause-now : goal.returns-clause-now
returns-clause-now g c =
    let tables = c.in_ok-tables.tables in
    let rows = rows_now c.args.release.now in
    facts_from_points (words_at Now tables) (rests_at Now tables) rows
    (λ k lt. c.in_ok-tables.ensures.now k lt ∙ (c.in_ok-made.ensures k lt).facts ∙ sym (facts_inside rows k (point_below k lt)))

pub returns-clause-next : goal.returns-clause-next
returns-clause-next g c =
    let tables = c.in_ok-tables.tables in
    let rows = rows_now c.args.release.now in
    facts_from_points (words_at Next tables) (rests_at Next tables) rows
    (λ k lt. c.in_ok-tables.ensures.next k lt ∙ (c.in_ok-made.ensures k lt).facts ∙ sym (facts_inside rows k (point_below k lt)))
