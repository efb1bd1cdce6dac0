use Rattle.unicodeset_parser.proofs.Found.{found_is}
use Rattle.unicodeset_parser.proofs.bytes.found_at.Goals as goal

pub returns-clause-place : goal.returns-clause-place
returns-clause-place c = found_is c.args.word.now c.args.text.now _ c.requires c.find.ensures
