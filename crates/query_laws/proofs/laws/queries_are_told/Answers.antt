use Rattle.ucd_facts.specs.AnswerProofs.{queries_are_told as law}
use Rattle.query_laws.proofs.laws.queries_are_told.Goals as goal

pub returns : goal.returns
returns c = law
