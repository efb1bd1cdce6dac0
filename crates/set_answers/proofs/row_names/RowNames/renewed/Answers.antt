use Rattle.set_answers.specs.RowNamesProofs.{again_meant}
use Rattle.set_answers.proofs.row_names.RowNames.renewed.Goals as goal

pub renewed-requires : goal.renewed-requires
renewed-requires c = again_meant c.args.self c.args.edited c.args.release.now.current c.requires
