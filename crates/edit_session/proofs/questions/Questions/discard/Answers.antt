use Rattle.dependency_map.specs.Maps.{asked_at}
use Rattle.point_store.specs.SlotStore.{values}
use Rattle.paged_table.specs.Paged.{values_now}
use Rattle.edit_session.proofs.QuestionLemmas.{keeps_same}
use Rattle.edit_session.proofs.questions.Questions.discard.Goals as goal

pub returns-clause-now : goal.returns-clause-now
returns-clause-now c = λ F kept.
    keeps_same c.args.self.now.mentions (asked_at (values values_now) c.args.self.now.map) (asked_at (values values_now) c.discard.new.self) F c.discard.ensures.now kept
