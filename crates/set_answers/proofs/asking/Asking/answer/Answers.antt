use Rattle.unicodeset_parser.specs.Views.{tree_view}
use Rattle.set_answers.proofs.QuestionLemmas.{few_asked}
use Rattle.set_answers.proofs.asking.Asking.answer.Goals as goal

pub returns-in-Ok-clause-members : goal.returns-in-Ok-clause-members
returns-in-Ok-clause-members g c = few_asked c.args.self.now (tree_view c.in-Ok.tree) c.members.result c.members.ensures
