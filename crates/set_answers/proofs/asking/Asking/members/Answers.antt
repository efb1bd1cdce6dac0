use Rattle.std.proofs.Common.{Ok}
use Rattle.unicodeset_eval.specs.Indexes.{index_holds}
use Rattle.unicodeset_parser.specs.Views.{tree_view}
use Rattle.set_answers.proofs.AskingLemmas.{tree_asked, unnamed_asked}
use Rattle.set_answers.proofs.asking.Asking.members.Goals as goal

pub returns-in-Ok : goal.returns-in-Ok
returns-in-Ok g c =
    rw (← c.self.view_is) (tree_asked c.self.inside.release.now.current c.self.inside.names.now.aliases (index_holds g.B.Records.record_of c.self.inside.index) (tree_view c.args.tree.now) c.self.invariant
    (Ok c.in-Ok.spans) c.in-Ok.ensures)

pub returns-in-Err : goal.returns-in-Err
returns-in-Err g c =
    rw (← c.self.view_is) (unnamed_asked c.self.inside.release.now.current c.self.inside.names.now.aliases (index_holds g.B.Records.record_of c.self.inside.index) (tree_view c.args.tree.now) c.self.invariant
    c.in-Err.stop c.stop_of_names.result c.in-Err.ensures c.stop_of_names.ensures)
