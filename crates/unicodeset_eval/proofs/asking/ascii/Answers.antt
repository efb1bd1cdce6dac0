use Rattle.std.proofs.Common.{◌∙◌}
use Rattle.unicodeset_eval.specs.PieceSets.{ascii_is}
use Rattle.unicodeset_eval.proofs.asking.ascii.Goals as goal

pub returns : goal.returns
returns c = λ x. c.in_ok-set.ensures x ∙ ascii_is x
