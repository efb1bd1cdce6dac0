use Rattle.std.proofs.Common.{◌≡◌, [], unwrap_or, ap, sym, ◌∙◌, arith}
use Rattle.std.specs.Option.{option_copied}
use Rattle.ucd_facts.specs.Facts.{Facts, only_or}
use Rattle.fact_tables.specs.FactTables.{words_at, rests_at}
use Rattle.fact_tables.specs.Rest.{RestOf}
use Rattle.fact_tables.specs.KeptFactsLemmas.{kept_point}
use Rattle.fact_tables.proofs.fact_tables.FactTables.simple_folding_in.Goals as goal

pub returns : goal.returns
returns g c =
    let kept = kept_point (words_at c.args.version c.args.self.now) (rests_at c.args.version c.args.self.now) c.args.c (omega arith) in
    c.simple_folding-2.ensures
    ∙ ap (λ o. only_or c.args.c (unwrap_or o (unwrap_or (option_copied c.common_folding.result) []))) c.simple_folding.ensures
    ∙ ap (λ o. only_or c.args.c (unwrap_or c.rest-rest.result.now.cases.simple (unwrap_or o []))) c.common_folding.ensures
    ∙ ap (λ (rest : RestOf). only_or c.args.c (unwrap_or rest.cases.simple (unwrap_or rest.cases.common []))) c.rest-rest.ensures
    ∙ ap (λ (F : Facts). F.simple_fold) (sym kept)
