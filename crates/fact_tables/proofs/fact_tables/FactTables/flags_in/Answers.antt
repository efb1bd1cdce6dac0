use Rattle.std.proofs.Common.{ap, sym, ◌∙◌, arith}
use Rattle.ucd_facts.specs.Facts.{Facts}
use Rattle.ucd_facts.specs.Sets.{has_flag}
use Rattle.fact_tables.specs.FactTables.{words_at, rests_at}
use Rattle.fact_tables.specs.Word.{flags_of_word}
use Rattle.fact_tables.specs.KeptFactsLemmas.{kept_point}
use Rattle.fact_tables.proofs.fact_tables.FactTables.flags_in.Goals as goal

pub returns : goal.returns
returns g c =
    let kept = kept_point (words_at c.args.version c.args.self.now) (rests_at c.args.version c.args.self.now) c.args.c (omega arith) in
    ap has_flag (c.flags_of.ensures ∙ ap flags_of_word c.word.ensures) ∙ ap (λ (F : Facts). F.flag) (sym kept)
