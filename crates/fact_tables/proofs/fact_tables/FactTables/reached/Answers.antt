use Rattle.std.proofs.Common.{◌≡◌, ◌<◌, List, ap, length, take, sym, ◌∙◌, arith}
use Rattle.std.proofs.lemmas.Bool.{true≢false}
use Rattle.std.proofs.lemmas.List.{take_all}
use Rattle.ucd_facts.specs.Answers.{is_asked}
use Rattle.ucd_facts.specs.declared.query.Query.{Query}
use Rattle.fact_tables.specs.FactTables.{facts_at}
use Rattle.fact_tables.specs.declared.now_or_next.NowOrNext.TheVariants.{Now, Next}
use Rattle.fact_tables.proofs.ChangeLemmas.{done_more}
use Rattle.fact_tables.proofs.fact_tables.FactTables.reached.Goals as goal

pub spans-init : goal.spans-init
spans-init g c = record {
  only = λ q is. absurd (true≢false (sym is ∙ ap (λ (Q : List Query). is_asked Q q) c.new.ensures.items));
  done = λ k is. absurd (true≢false (sym is));
}

pub spans-preserved : goal.spans-preserved
spans-preserved g c =
    let t = c.args.self.now in
    let step = c.in_ok-reach_span.ensures in
    let i = c.spans.span-index in
    let inside : i < length c.args.spans.now = omega arith in
    record {
      only = step.queries.only c.spans.invariant.only;
      done = λ k is. done_more c.args.spans.now i c.span-item.result k t.index (facts_at Now t) (facts_at Next t) c.spans.reached c.reach_span.new.reached inside is step.queries step.pairs (c.spans.invariant.done k)
          (rw (sym c.span-item.is) (λ low high. step.done k low high));
    }

pub returns-clause-done : goal.returns-clause-done
returns-clause-done g c k is =
    let all : take c.spans.span-index c.args.spans.now ≡ c.args.spans.now = take_all c.spans.span-index c.args.spans.now (omega arith) in
    c.spans.invariant.done k (rw all is)
