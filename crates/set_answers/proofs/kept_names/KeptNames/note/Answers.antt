use Rattle.set_answers.specs.RowNamesProofs.{names_stay}
use Rattle.set_answers.proofs.kept_names.KeptNames.note.Goals as goal

pub returns-clause-stays : goal.returns-clause-stays
returns-clause-stays c = λ old new stay kept.
    rw (c.put_edited.ensures.names, c.put_edited.ensures.edited) (names_stay c.args.self.now.names c.args.self.now.edited c.args.group.now old new stay kept)
