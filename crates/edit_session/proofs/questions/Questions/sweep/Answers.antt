use Rattle.std.proofs.Common.{sym, ◌∙◌}
use Rattle.dependency_map.specs.Maps.{asked_at}
use Rattle.point_store.specs.SlotStore.{values}
use Rattle.paged_table.specs.Paged.{values_now}
use Rattle.edit_session.proofs.QuestionLemmas.{keeps_same}
use Rattle.edit_session.proofs.questions.Questions.sweep.Goals as goal

pub returns-clause-now : goal.returns-clause-now
returns-clause-now c = λ F kept.
    keeps_same c.args.self.now.mentions (asked_at (values values_now) c.args.self.now.map) (asked_at (values values_now) c.sweep.new.self) F c.sweep.ensures.now kept

pub returns-clause-still : goal.returns-clause-still
returns-clause-still c = λ still k lt. c.sweep.ensures.next k lt ∙ still k lt ∙ sym (c.sweep.ensures.now k lt)
