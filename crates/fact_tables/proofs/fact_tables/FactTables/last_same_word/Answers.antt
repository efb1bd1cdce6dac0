use Rattle.std.proofs.Common.{◌≡◌, sym, ◌∙◌, arith}
use Rattle.fact_tables.specs.FactTables.{words_at}
use Rattle.fact_tables.specs.declared.now_or_next.NowOrNext.TheVariants.{Now, Next}
use Rattle.fact_tables.proofs.fact_tables.FactTables.last_same_word.Goals as goal

pub returns : goal.returns
returns g c =
    let now = c.last_of_stretch-now.ensures in
    let next = c.last_of_stretch_next-next.ensures in
    let same : words_at Now c.args.self.now c.args.c ≡ words_at Next c.args.self.now c.args.c = omega (arith, c.word-word.ensures, c.word-word_next.ensures) in
    record {
      from = omega (arith, now.from, next.from, c.lesser.ensures);
      each = λ d low high. now.same d low (omega (arith, high, c.lesser.ensures)) ∙ same ∙ sym (next.same d low (omega (arith, high, c.lesser.ensures)));
    }
