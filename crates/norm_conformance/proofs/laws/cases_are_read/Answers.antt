use Rattle.norm_conformance.proofs.CasesRead.{cases_are_read}
use Rattle.norm_conformance.proofs.laws.cases_are_read.Goals as goal

pub returns : goal.returns
returns c = cases_are_read
