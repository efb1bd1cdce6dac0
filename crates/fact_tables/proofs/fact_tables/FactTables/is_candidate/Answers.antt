use Rattle.std.proofs.Common.{refl, ap, ◌∙◌, arith}
use Rattle.fact_tables.specs.FactTables.{words_at, rests_at}
use Rattle.fact_tables.specs.Index.{is_candidate_word}
use Rattle.fact_tables.specs.KeptFactsLemmas.{word_reads}
use Rattle.fact_tables.proofs.fact_tables.FactTables.is_candidate.Goals as goal

pub returns : goal.returns
returns g c =
    let back = word_reads (words_at c.args.version c.args.self.now) (rests_at c.args.version c.args.self.now) c.args.q (omega arith) in
    c.is_candidate_word.ensures ∙ ap is_candidate_word c.word.ensures ∙ rw (back.kind, back.class, back.excluded) refl
