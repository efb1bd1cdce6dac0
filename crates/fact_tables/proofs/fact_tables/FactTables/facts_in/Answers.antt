use Rattle.std.proofs.Common.{ap₂, sym, ◌∙◌, arith}
use Rattle.fact_tables.specs.FactTables.{words_at, rests_at}
use Rattle.fact_tables.specs.KeptFacts.{kept_at}
use Rattle.fact_tables.specs.KeptFactsLemmas.{kept_point}
use Rattle.fact_tables.proofs.fact_tables.FactTables.facts_in.Goals as goal

pub returns : goal.returns
returns g c =
    let kept = kept_point (words_at c.args.version c.args.self.now) (rests_at c.args.version c.args.self.now) c.args.c (omega arith) in
    c.facts_of_word.ensures ∙ ap₂ (kept_at c.args.c) c.word.ensures c.rest.ensures ∙ sym kept
