use Rattle.dependency_map.specs.Maps.{asked_at}
use Rattle.point_store.specs.SlotStore.{values}
use Rattle.paged_table.specs.Paged.{values_now, values_next}
use Rattle.edit_session.proofs.QuestionLemmas.{keeps_same}
use Rattle.edit_session.proofs.questions.Questions.commit.Goals as goal

pub returns-clause-committed : goal.returns-clause-committed
returns-clause-committed c = λ F kept.
    keeps_same c.args.self.now.mentions (asked_at (values values_next) c.args.self.now.map) (asked_at (values values_now) c.commit.new.self) F c.commit.ensures.committed kept
