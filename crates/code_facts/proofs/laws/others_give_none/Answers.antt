use Rattle.code_facts.specs.LocalityProofs.{others_give_none}
use Rattle.code_facts.proofs.laws.others_give_none.Goals as goal

pub returns : goal.returns
returns c = others_give_none
