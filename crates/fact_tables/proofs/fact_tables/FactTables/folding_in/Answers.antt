use Rattle.std.proofs.Common.{◌≡◌, [], ◌∷◌, unwrap_or, ap, sym, ◌∙◌, arith}
use Rattle.std.specs.Option.{option_copied}
use Rattle.ucd_facts.specs.Facts.{Facts, image}
use Rattle.fact_tables.specs.FactTables.{words_at, rests_at}
use Rattle.fact_tables.specs.Rest.{RestOf}
use Rattle.fact_tables.specs.KeptFactsLemmas.{kept_point}
use Rattle.fact_tables.proofs.fact_tables.FactTables.folding_in.Goals as goal

pub returns : goal.returns
returns g c =
    let kept = kept_point (words_at c.args.version c.args.self.now) (rests_at c.args.version c.args.self.now) c.args.c (omega arith) in
    c.folding.ensures
    ∙ ap (λ o. image c.args.c (unwrap_or o (unwrap_or (option_copied c.common_folding.result) (c.args.c ∷ [])))) c.full_folding.ensures
    ∙ ap (λ o. image c.args.c (unwrap_or c.rest-rest.result.now.cases.full (unwrap_or o (c.args.c ∷ [])))) c.common_folding.ensures
    ∙ ap (λ (rest : RestOf). image c.args.c (unwrap_or rest.cases.full (unwrap_or rest.cases.common (c.args.c ∷ [])))) c.rest-rest.ensures
    ∙ ap (λ (F : Facts). F.fold) (sym kept)
