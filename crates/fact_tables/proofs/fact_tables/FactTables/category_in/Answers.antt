use Rattle.std.proofs.Common.{ap, ◌∙◌, arith}
use Rattle.fact_tables.specs.FactTables.{words_at, rests_at}
use Rattle.fact_tables.specs.Word.{category_of_word}
use Rattle.fact_tables.specs.KeptFactsLemmas.{word_reads}
use Rattle.fact_tables.proofs.fact_tables.FactTables.category_in.Goals as goal

pub returns : goal.returns
returns g c =
    let back = word_reads (words_at c.args.version c.args.self.now) (rests_at c.args.version c.args.self.now) c.args.c (omega arith) in
    c.category_of.ensures ∙ ap category_of_word c.word.ensures ∙ back.category
