use Rattle.std.proofs.Common.{ap, sym, ◌∙◌, arith}
use Rattle.ucd_facts.specs.Facts.{Facts}
use Rattle.fact_tables.specs.FactTables.{words_at, rests_at}
use Rattle.fact_tables.specs.Rest.{RestOf}
use Rattle.fact_tables.specs.KeptFactsLemmas.{kept_point}
use Rattle.fact_tables.proofs.fact_tables.FactTables.mapping_in.Goals as goal

pub returns : goal.returns
returns g c =
    let kept = kept_point (words_at c.args.version c.args.self.now) (rests_at c.args.version c.args.self.now) c.args.c (omega arith) in
    c.mapping.ensures ∙ ap (λ (rest : RestOf). rest.mapping) c.rest.ensures ∙ ap (λ (F : Facts). F.mapping) (sym kept)
