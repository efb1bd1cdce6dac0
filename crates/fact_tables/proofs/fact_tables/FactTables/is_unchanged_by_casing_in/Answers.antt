use Rattle.std.proofs.Common.{ap, sym, ◌∙◌, arith}
use Rattle.ucd_facts.specs.Unmapped.{is_unchanged_by_casing}
use Rattle.fact_tables.specs.FactTables.{words_at, rests_at}
use Rattle.fact_tables.proofs.PlainLemmas.{bare_unmapped}
use Rattle.fact_tables.proofs.fact_tables.FactTables.is_unchanged_by_casing_in.Goals as goal

pub returns-in-Some : goal.returns-in-Some
returns-in-Some g c =
    sym (bare_unmapped (words_at c.args.version c.args.self.now) (rests_at c.args.version c.args.self.now) c.args.c _ (omega arith) (sym c.rest.ensures ∙ c.in-Some.ensures))

pub returns-in-None : goal.returns-in-None
returns-in-None g c = c.is_unchanged_by_casing.ensures ∙ ap is_unchanged_by_casing c.facts_in.ensures
