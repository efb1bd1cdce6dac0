use Rattle.std.proofs.Common.{length}
use Rattle.unicodeset_eval.proofs.unions.+halved_union.Given as goal

abbrev pub decreases-halved_union : goal.decreases-halved_union
decreases-halved_union l = length l.spans.now
