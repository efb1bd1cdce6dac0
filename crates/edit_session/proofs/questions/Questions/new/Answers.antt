use Rattle.std.proofs.Common.{ℕ, List, sym, ap, ◌∙◌}
use Rattle.ucd_facts.specs.declared.query.Query.{Query}
use Rattle.edit_session.proofs.questions.Questions.new.Goals as goal

pub returns-clause-now : goal.returns-clause-now
returns-clause-now c = λ F k lt. ap (λ (asks : ℕ → List Query). asks k) c.new.ensures.now

pub returns-clause-still : goal.returns-clause-still
returns-clause-still c = λ k lt. ap (λ (asks : ℕ → List Query). asks k) (c.new.ensures.next ∙ sym c.new.ensures.now)
