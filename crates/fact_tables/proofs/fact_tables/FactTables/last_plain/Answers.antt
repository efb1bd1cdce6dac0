use Rattle.std.proofs.Common.{◌≡◌, ◌==◌, ℕ, true, List, [], length, refl, ap, sym, ◌∙◌, arith}
use Rattle.ucd_facts.specs.Facts.{Facts}
use Rattle.fact_tables.specs.FactTables.{words_at, rests_at}
use Rattle.fact_tables.specs.Rest.{RestOf, no_rest}
use Rattle.fact_tables.specs.declared.now_or_next.NowOrNext.TheVariants.{Now}
use Rattle.fact_tables.specs.KeptFactsLemmas.{kept_point}
use Rattle.fact_tables.proofs.PlainLemmas.{unmapped_plain}
use Rattle.fact_tables.proofs.fact_tables.FactTables.last_plain.Goals as goal

pub returns-then-is_none-clause-plain : goal.returns-then-is_none-clause-plain
returns-then-is_none-clause-plain g c =
    let t = c.args.self.now in
    let none : rests_at Now t c.args.c ≡ no_rest = sym c.get-rest.ensures ∙ c.is_none.ensures c.if-is_none.true in
    (λ _. unmapped_plain (words_at Now t) (rests_at Now t) c.args.c (omega (arith, c.number-first.ensures.value, c.number-first.ensures.bound)) none, λ _. refl)

pub returns-then-is_none-clause-stretch : goal.returns-then-is_none-clause-stretch
returns-then-is_none-clause-stretch g c =
    let t = c.args.self.now in
    let none : rests_at Now t c.args.c ≡ no_rest = sym c.get-rest.ensures ∙ c.is_none.ensures c.if-is_none.true in
    record {
      from = c.last_of_stretch-last.ensures.from;
      each = λ d low high.
          unmapped_plain (words_at Now t) (rests_at Now t) d (omega (arith, high, c.number-last.ensures.value, c.number-last.ensures.bound)) (c.last_of_stretch-last.ensures.same d low high ∙ none);
    }

pub returns-then-not-is_empty-clause-plain : goal.returns-then-not-is_empty-clause-plain
returns-then-not-is_empty-clause-plain g c =
    let t = c.args.self.now in
    let kept = kept_point (words_at Now t) (rests_at Now t) c.args.c (omega (arith, c.number-first.ensures.value, c.number-first.ensures.bound)) in (
      λ e. absurd cc,
      λ plain.
          let none : c.mapping.result.now ≡ [] = c.mapping.ensures ∙ ap (λ (r : RestOf). r.mapping) c.get-rest.ensures ∙ ap (λ (F : Facts). F.mapping) (sym kept) ∙ plain.mapping in
          let empty : c.is_empty.result ≡ true = c.is_empty.ensures ∙ ap (λ (xs : List ℕ). length xs == 0) none in
          absurd cc,
    )
