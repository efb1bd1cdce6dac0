use Rattle.std.proofs.Common.{◌≡◌, ℕ, ◌+◌, ◌++◌, ◌∷◌, [], ap, subst, sym, ◌∙◌, arith}
use Rattle.age_chain.specs.Ages.{ChainState, StandsFor}
use Rattle.ucdshop_more_core.specs.Steps.{step_text}
use Rattle.ucdshop_more_core.specs.declared.chaining.Chained.{Chained}
use Rattle.ucdshop_more_core.proofs.ChainLemmas.{follows_first, follows_step}
use Rattle.ucdshop_more_core.proofs.chaining.Chained.add.Goals.{then-number-gt1+in_ok-put_step, else-number-gt1}
use Rattle.ucdshop_more_core.proofs.chaining.Chained.add.Goals as goal

pub returns : goal.returns
returns c = record {
  follows = λ releases before.
      let old = c.args.self.now in
      let new : Chained = record { chain = c.if-number-gt1.self.chain; steps = c.if-number-gt1.self.steps; breaks = c.in_ok-self.field-0 } in
      let breaks = c.in_ok-breaks.breaks in
      let stands = c.in_ok-breaks.ensures.chain releases before.chain in
      let number : c.count-number.result ≡ old.chain.count + 1 = c.count-number.ensures ∙ c.in_ok-breaks.ensures.count in
      elim c.if-number-gt1.branch [
        | then-number-gt1+in_ok-put_step w ↦
            follows_step old new c.args.bench breaks releases before c.in_ok-breaks.ensures.breaks
            (subst (λ (chain : ChainState). StandsFor chain (releases ++ c.args.bench ∷ [])) (sym (ap (λ (s : Chained). s.chain) w.self-is)) stands)
            (omega (arith, number, w.if-number-gt1.true))
            (ap (λ (s : Chained). s.steps) w.self-is ∙ w.in_ok-put_step.ensures ∙ ap (λ (n : ℕ). old.steps ++ step_text n breaks) number)
            (omega (arith, c.in_ok-self.ensures, ap (λ (s : Chained). s.breaks) w.self-is, c.len.ensures))
        | else-number-gt1 w ↦
            follows_first old new c.args.bench breaks releases before c.in_ok-breaks.ensures.breaks
            (subst (λ (chain : ChainState). StandsFor chain (releases ++ c.args.bench ∷ [])) (sym (ap (λ (s : Chained). s.chain) w.self-is)) stands)
            (λ more. absurd (omega (arith, number, w.if-number-gt1.false, more)))
            (ap (λ (s : Chained). s.steps) w.self-is)
            (omega (arith, c.in_ok-self.ensures, ap (λ (s : Chained). s.breaks) w.self-is, c.len.ensures))
      ];
}
