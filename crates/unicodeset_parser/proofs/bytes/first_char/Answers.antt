use Rattle.unicodeset_parser.proofs.Sizes.{at_most_four, at_most_all}
use Rattle.unicodeset_parser.proofs.bytes.first_char.Goals as goal

pub returns-clause-within : goal.returns-clause-within
returns-clause-within c = rw c.decode.ensures.size (at_most_all c.args.text.now)

pub returns-clause-small : goal.returns-clause-small
returns-clause-small c = rw c.decode.ensures.size (at_most_four c.args.text.now)
