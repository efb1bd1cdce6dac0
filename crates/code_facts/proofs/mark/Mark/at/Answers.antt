use Rattle.std.proofs.Common.{arith}
use Rattle.code_facts.proofs.MarkLemmas.{flag_behind}
use Rattle.code_facts.proofs.mark.Mark.at.Goals as goal

pub returns-in_default : goal.returns-in_default
returns-in_default c = flag_behind c.args.place (omega (arith, c.in_default)) c.requires
